use Rattle.std.proofs.Common.{refl}
use Rattle.rm_pool.proofs.Journals.{stands_at_opening}
use Rattle.rm_pool.proofs.journal.Journal.over.Goals as goal

pub invariant_of-result : goal.invariant_of-result
invariant_of-result g c =
    rw (c.of-opened.ensures, c.attached.ensures)
    (stands_at_opening _ _ (g.met.V.Volume.only_now c.args.volume) (g.met.V.Volume.only_modelled c.args.volume) c.requires.synced c.requires.attached, refl)
