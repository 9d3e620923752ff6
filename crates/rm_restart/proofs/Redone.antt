-- What redo of a record leaves of the pages of a file.
use Rattle.std.proofs.Common.{◌≡◌, ◌<◌, List, length, get_or, set, sym, ap, subst, ◌∙◌, arith}
use Rattle.std.proofs.lemmas.List.Elements.{All-get_or}
use Rattle.rm_types.specs.declared.numbers.Rid.{Rid}
use Rattle.rm_types.specs.declared.slots.Slot.{Slot}
use Rattle.rm_model.specs.Pages.{PageValue}
use Rattle.rm_model.specs.Files.{page_at, slots_of}
use Rattle.rm_model.proofs.FileLaws.{length-slots_of, page_at-slots_of, slots_of-set}
use Rattle.rm_record.specs.declared.records.Logged.{Logged}
use Rattle.rm_history.specs.Acts.{act_of}
use Rattle.rm_history.specs.Contents.{page_after}
use Rattle.rm_apply.specs.declared.answers.Applied.{Applied}
use Rattle.rm_apply.specs.declared.answers.Applied.TheVariants.{Changed, Older}
use Rattle.rm_apply.specs.Redo.{IsUnfit, Redoes}
use Rattle.rm_restart.specs.Replaying.{HaveLsnsBelow, IsRedone}

-- a record that its page lacks is redone there
pub redone : (pages : List PageValue) (page new : PageValue) (rid : Rid) (logged : Logged) (applied : Applied) → rid.page < length pages → HaveLsnsBelow logged.lsn.0 pages
    → Redoes rid.page (get_or pages rid.page page) logged.what logged.lsn applied new → IsRedone pages (set pages rid.page new) rid logged.what logged.lsn.0
redone pages page new rid logged Changed inside below is =
    let there : (get_or pages rid.page page).slots ≡ page_at (slots_of pages) rid.page = sym (page_at-slots_of pages rid.page page inside) in
    record {
      inside = omega (arith, inside, length-slots_of pages);
      fits = λ unfit. is.1 (subst (λ (slots : List Slot). IsUnfit slots logged.what) (sym there) unfit);
      slots_are =
          slots_of-set pages rid.page new
          ∙ ap (λ (p : PageValue). set (slots_of pages) rid.page p.slots) is.2
          ∙ ap (λ (slots : List Slot). set (slots_of pages) rid.page (page_after (act_of logged) rid.page slots)) there;
    }
redone pages page new rid logged Older inside below is = absurd (omega (arith, is.0, All-get_or (λ (p : PageValue). p.lsn.0 < logged.lsn.0) pages rid.page page inside below))
