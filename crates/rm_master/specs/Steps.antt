-- What the calls of this crate do to an image.
use Rattle.std.specs.Prelude.{◌≡◌, ℕ, ◌≤◌}
use Rattle.rm_types.specs.declared.areas.Area.TheVariants.{Master, Log, Copy}
use Rattle.rm_outside.specs.Images.{Image, KeepsOthers}

-- area Copy stays, and of Log the bytes after the first gate's
pub record KeepsCopyAndLog (old new : Image) : Type 0 where
  pub copy : new Copy ≡ old Copy
  pub log : (k : ℕ) → 1 ≤ k → new Log k ≡ old Log k

-- the master stays too
pub record KeepsMaster (old new : Image) : Type 0 where
  pub master : new Master ≡ old Master
  pub rest : KeepsCopyAndLog old new

-- the other areas stay, and the made byte
pub record KeepsMadeByte (old new : Image) : Type 0 where
  pub others : KeepsOthers Master old new
  pub made : new Master 0 ≡ old Master 0
