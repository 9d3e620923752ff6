use Rattle.std.proofs.Common.{◌≡◌, ◌*◌, ◌≤◌, take, reverse}
use Rattle.rm_types.specs.declared.rows.TheConstants.{MAX_ROW}
use Rattle.rm_audit.specs.Parts.{need_in}
use Rattle.rm_audit.proofs.needs.need_among.Given as goal

abbrev pub invariant-loop-change : goal.invariant-loop-change
invariant-loop-change l = (l.need ≡ need_in (reverse (take l.change-index l.pending)) l.page l.txn.0) × (l.need ≤ MAX_ROW * l.change-index)
