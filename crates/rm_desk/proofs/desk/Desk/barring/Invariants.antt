use Rattle.rm_desk.proofs.Names.{◌≡◌, ℕ, ◌<◌, false}
use Rattle.rm_play.specs.Choosing.{bars_it}
use Rattle.rm_desk.proofs.desk.Desk.barring.Given as goal

abbrev pub invariant-loop-j : goal.invariant-loop-j
invariant-loop-j l = record { passed : (i : ℕ) → i < l.j → bars_it l.self.view.state l.k l.page i ≡ false }
