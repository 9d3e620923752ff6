-- How the rows of a run go on, line by line.
use Rattle.std.proofs.Common.{◌≡◌, ℕ, zero, suc, ◌+◌, ◌-◌, ◌<◌, ◌≤◌, List, [], ◌∷◌, ◌++◌, length, refl, arith}
use Rattle.rm_plain.specs.declared.lines.Line.{Line}
use Rattle.rm_types.specs.declared.operations.Reply.{Reply}
use Rattle.rm_model.specs.Object.{Rows}
use Rattle.rm_engine.specs.Runs.{acknowledges, acknowledged, open_with, open_after, put, rows_after}

-- one reply more
pub acknowledged-snoc : (replies : List Reply) (answer : Reply)
    → acknowledged (replies ++ answer ∷ []) ≡ acknowledged replies + acknowledges answer
acknowledged-snoc [] answer = refl
acknowledged-snoc (first ∷ replies) answer = omega (arith, acknowledged-snoc replies answer)

pub open_after-snoc : (replies : List Reply) (answer : Reply) (before : ℕ)
    → open_after (replies ++ answer ∷ []) before ≡ open_with answer (open_after replies before)
open_after-snoc [] answer before = refl
open_after-snoc (first ∷ replies) answer before = open_after-snoc replies answer (open_with first before)

-- the rows of acknowledged transactions stay, whatever the next line is
pub rows_after-stays : (lines : List Line) (replies : List Reply) (asked : Line) (answer : Reply) (count : ℕ) (rows : Rows)
    → length lines ≡ length replies → count ≤ acknowledged replies
    → rows_after (lines ++ asked ∷ []) (replies ++ answer ∷ []) count rows ≡ rows_after lines replies count rows
rows_after-stays [] [] asked answer zero rows same few = refl
rows_after-stays [] [] asked answer (suc count) rows same few = absurd (omega arith)
rows_after-stays [] (first ∷ replies) asked answer count rows same few = absurd (omega arith)
rows_after-stays (line ∷ lines) [] asked answer count rows same few = absurd (omega arith)
rows_after-stays (line ∷ lines) (first ∷ replies) asked answer zero rows same few = refl
rows_after-stays (line ∷ lines) (first ∷ replies) asked answer (suc count) rows same few =
    rows_after-stays lines replies asked answer (suc count - acknowledges first) (put rows line first) (omega arith) (omega arith)

-- to those of the open transaction the next line adds what it puts
pub rows_after-next : (lines : List Line) (replies : List Reply) (asked : Line) (answer : Reply) (count : ℕ) (rows : Rows)
    → length lines ≡ length replies → acknowledged replies < count
    → rows_after (lines ++ asked ∷ []) (replies ++ answer ∷ []) count rows ≡ put (rows_after lines replies count rows) asked answer
rows_after-next [] [] asked answer zero rows same more = absurd (omega arith)
rows_after-next [] [] asked answer (suc count) rows same more = refl
rows_after-next [] (first ∷ replies) asked answer count rows same more = absurd (omega arith)
rows_after-next (line ∷ lines) [] asked answer count rows same more = absurd (omega arith)
rows_after-next (line ∷ lines) (first ∷ replies) asked answer zero rows same more = absurd (omega arith)
rows_after-next (line ∷ lines) (first ∷ replies) asked answer (suc count) rows same more =
    rows_after-next lines replies asked answer (suc count - acknowledges first) (put rows line first) (omega arith) (omega arith)

-- every count above the acknowledged commits takes the same rows
pub rows_after-enough : (lines : List Line) (replies : List Reply) (count other : ℕ) (rows : Rows)
    → acknowledged replies < count → acknowledged replies < other
    → rows_after lines replies count rows ≡ rows_after lines replies other rows
rows_after-enough [] replies count other rows more also = refl
rows_after-enough (line ∷ lines) [] count other rows more also = refl
rows_after-enough (line ∷ lines) (first ∷ replies) zero other rows more also = absurd (omega arith)
rows_after-enough (line ∷ lines) (first ∷ replies) (suc count) zero rows more also = absurd (omega arith)
rows_after-enough (line ∷ lines) (first ∷ replies) (suc count) (suc other) rows more also =
    rows_after-enough lines replies (suc count - acknowledges first) (suc other - acknowledges first) (put rows line first)
    (omega arith) (omega arith)
