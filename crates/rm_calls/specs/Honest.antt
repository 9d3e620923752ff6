-- Honest files exist, whatever they held and whatever is asked of them: so the hypothesis on a record can be met.
use Rattle.std.proofs.Common.{◌≡◌, ℕ, zero, suc, ◌+◌, ◌<◌, List, [], ◌∷◌, length, slice_index, ap, ◌∙◌, arith}
use Rattle.rm_types.specs.declared.areas.Area.{Area}
use Rattle.rm_outside.specs.Images.{Bytes, Image}
use Rattle.rm_calls.specs.declared.answer.Answer.{Answer}
use Rattle.rm_calls.specs.declared.answer.Answer.TheVariants.{Done}
use Rattle.rm_calls.specs.Calls.{Call, Read, Wrote, Synced}
use Rattle.rm_calls.specs.Replay.{Holds, IsHonest, held}

-- What is asked: one byte and this many more; a write; a sync. The answers of the last two are free.
pub data Request : Type 0 where
  ReadFrom : (area : Area) (at : ℕ) (more : ℕ) → Request
  WriteOf : (area : Area) (at : ℕ) (bytes : List ℕ) (answer : Answer) → Request
  SyncOf : (area : Area) (answer : Answer) → Request

-- this many bytes from an offset on
unfoldable pub bytes_from : Bytes → ℕ → ℕ → List ℕ
bytes_from area at zero = []
bytes_from area at (suc n) = area at ∷ bytes_from area (at + 1) n

-- the record of files that held `start` and give what they hold, the newest request first
unfoldable pub answered : Image → List Request → List Call
answered start [] = []
answered start (ReadFrom area at more ∷ rest) =
    Read area at (bytes_from (held start (answered start rest) area) at (suc more)) (Done (suc more)) ∷ answered start rest
answered start (WriteOf area at bytes answer ∷ rest) = Wrote area at bytes answer ∷ answered start rest
answered start (SyncOf area answer ∷ rest) = Synced area answer ∷ answered start rest

shown_from : (area : Bytes) (at n k : ℕ) → k < length (bytes_from area at n) → area (at + k) ≡ slice_index (bytes_from area at n) k
unfolding bytes_from
shown_from area at zero k below = absurd (omega (arith, below))
shown_from area at (suc n) zero below = let same : at + 0 ≡ at = omega arith in ap area same
shown_from area at (suc n) (suc k) below =
    let same : at + suc k ≡ at + 1 + k = omega arith in
    ap area same ∙ shown_from area (at + 1) n k (omega (arith, below))

holds_from : (area : Bytes) (at more : ℕ) → Holds area at (bytes_from area at (suc more))
unfolding bytes_from
holds_from area at more = record {
  shows = record { each = λ k below. shown_from area at (suc more) k below };
  end = λ none. absurd (omega (arith, none));
}

pub honest_files_exist : (start : Image) (requests : List Request) → IsHonest start (answered start requests)
unfolding answered IsHonest
honest_files_exist start [] = tt
honest_files_exist start (ReadFrom area at more ∷ rest) = (honest_files_exist start rest, λ _. holds_from (held start (answered start rest) area) at more)
honest_files_exist start (WriteOf area at bytes answer ∷ rest) = honest_files_exist start rest
honest_files_exist start (SyncOf area answer ∷ rest) = honest_files_exist start rest
