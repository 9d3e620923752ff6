-- A record leaves room on all pages where it does on the page whose slot it sets.
use Rattle.std.proofs.Common.{◌≡◌, ℕ, ◌∷◌, Some, ap, ◌∙◌, inl, inr}
use Rattle.std.proofs.lemmas.Bool.{cases_eq}
use Rattle.rm_types.specs.declared.numbers.Rid.{Rid}
use Rattle.rm_model.specs.Pages.{set_slot}
use Rattle.rm_history.specs.Acts.{Act, History, changes, undoes, enters, commits, ends, marks}
use Rattle.rm_history.specs.Contents.{page_of}
use Rattle.rm_history.specs.Needs.{FitsOn, Fits}
use Rattle.rm_history.specs.Rules.{MayCome}
use Rattle.rm_history.proofs.PendingSteps.{if_different}
use Rattle.rm_history.proofs.NeedSums.{pending_on-change, pending_on-undo, fits_as_before, finish_fits}
use Rattle.rm_audit.specs.Parts.{page_in}

pub keeps_room : (act : Act) (before : History) → MayCome before act → Fits before → ((page : ℕ) → page_in act ≡ Some page → FitsOn (act ∷ before) page)
    → Fits (act ∷ before)
keeps_room (changes c) before may fits set page = elim (cases_eq c.rid.page page) [
  | inl here ↦ set page (ap Some here)
  | inr other ↦
      fits_as_before before (changes c ∷ before) page
      (if_different c.rid.page page (set_slot (page_of before page) c.rid.slot c.after) (page_of before page) other)
      (λ txn. pending_on-change c before txn page other) (fits page)
]
keeps_room (undoes u) before may fits set page = elim (cases_eq u.rid.page page) [
  | inl here ↦ set page (ap Some here)
  | inr other ↦
      fits_as_before before (undoes u ∷ before) page
      (if_different u.rid.page page (set_slot (page_of before page) u.rid.slot u.back) (page_of before page) other)
      (λ txn. pending_on-undo u before may.last may.is_last.0 txn page may.is_last.1 (λ same. other (ap (λ (rid : Rid). rid.page) may.rid_is ∙ same)))
      (fits page)
]
keeps_room (enters e) before may fits set page = fits page
keeps_room (commits f) before may fits set page = finish_fits before f fits page
keeps_room (ends f) before may fits set page = finish_fits before f fits page
keeps_room (marks m) before may fits set page = fits page
