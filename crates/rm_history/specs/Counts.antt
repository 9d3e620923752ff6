-- How many records of a history are of some kinds.
use Rattle.std.specs.Prelude.{ℕ, ◌+◌, [], ◌∷◌}
use Rattle.rm_history.specs.Acts.{History, changes, undoes, enters, commits, ends, marks}

-- how many commits there are
abbrev pub commit_count : History → ℕ
commit_count [] = 0
commit_count (changes c ∷ before) = commit_count before
commit_count (undoes u ∷ before) = commit_count before
commit_count (enters e ∷ before) = commit_count before
commit_count (commits f ∷ before) = commit_count before + 1
commit_count (ends f ∷ before) = commit_count before
commit_count (marks m ∷ before) = commit_count before

-- how many records are of the kinds that restart repeats: changes, undoes, enters
abbrev pub repeat_count : History → ℕ
repeat_count [] = 0
repeat_count (changes c ∷ before) = repeat_count before + 1
repeat_count (undoes u ∷ before) = repeat_count before + 1
repeat_count (enters e ∷ before) = repeat_count before + 1
repeat_count (commits f ∷ before) = repeat_count before
repeat_count (ends f ∷ before) = repeat_count before
repeat_count (marks m ∷ before) = repeat_count before

-- how many compensations there are
abbrev pub undo_count : History → ℕ
undo_count [] = 0
undo_count (changes c ∷ before) = undo_count before
undo_count (undoes u ∷ before) = undo_count before + 1
undo_count (enters e ∷ before) = undo_count before
undo_count (commits f ∷ before) = undo_count before
undo_count (ends f ∷ before) = undo_count before
undo_count (marks m ∷ before) = undo_count before
