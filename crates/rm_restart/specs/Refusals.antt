-- What a refusal of the replay says.
use Rattle.rm_types.specs.declared.numbers.Lsn.{Lsn}
use Rattle.rm_restart.specs.declared.replay.ReplayRefused.{ReplayRefused}
use Rattle.rm_restart.specs.declared.replay.ReplayRefused.TheVariants.{Misfit, NoMemory}

-- P of the LSN of the record that did not fit, if that is the refusal
abbrev pub IfMisfit : ReplayRefused → (Lsn → Type 0) → Type 0
IfMisfit (Misfit at) P = P at
IfMisfit NoMemory P = Unit {0}
