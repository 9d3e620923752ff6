-- Each text is written as one line: no part of it but its last byte is an LF.
use Rattle.std.proofs.Common.{◌≡◌, ℕ, ◌^◌, ◌<◌, ◌==◌, true, not, List, [], ◌∷◌, ◌++◌, codes, decimal, refl, sym, arith, append_assoc}
use Rattle.std.specs.List.{list_all}
use Rattle.rm_types.specs.declared.numbers.Rid.{Rid}
use Rattle.rm_events.specs.declared.operations.Reply.{Reply}
use Rattle.rm_events.specs.declared.operations.Reply.TheVariants as reply
use Rattle.rm_script.specs.Cuts.{Lacks}
use Rattle.rm_script.specs.Laws.{IsInRange, IsOneLine, TextsAreLines}
use Rattle.rm_script.specs.Targets.{place}
use Rattle.rm_script.specs.Texts.{shown, turn_line, words_of}
use Rattle.rm_script.proofs.CutLaws.{Lacks-append, Lacks-decimal, Lacks-from_test, Lacks-hex}

-- a fixed text after another has no LF
pub then_word : (prefix word : List ℕ) → list_all (λ byte. not (byte == 10)) word ≡ true → Lacks 10 prefix → Lacks 10 (prefix ++ word)
then_word prefix word passes clear = Lacks-append 10 prefix word clear (Lacks-from_test 10 word passes)

-- nor has a number
then_number : (prefix : List ℕ) (number : ℕ) → number < 2 ^ 64 → Lacks 10 prefix → Lacks 10 (prefix ++ decimal number)
then_number prefix number fits clear = Lacks-append 10 prefix (decimal number) clear (Lacks-decimal 10 number (omega arith) fits)

-- a word and a number
pub worded : (word : List ℕ) (number : ℕ) → list_all (λ byte. not (byte == 10)) word ≡ true → number < 2 ^ 64 → Lacks 10 (word ++ decimal number)
worded word number passes fits = then_number word number fits (Lacks-from_test 10 word passes)

pub Lacks-place : (rid : Rid) → rid.page < 2 ^ 32 → rid.slot < 2 ^ 16 → Lacks 10 (place rid)
Lacks-place rid page slot =
    then_number (decimal rid.page ++ codes ".") rid.slot (omega arith) (then_word (decimal rid.page) (codes ".") refl (Lacks-decimal 10 rid.page (omega arith) (omega arith)))

pub Lacks-shown : (row : List ℕ) → Lacks 10 (shown row)
Lacks-shown [] = Lacks-from_test 10 (codes "-") refl
Lacks-shown (byte ∷ row) = Lacks-hex 10 (byte ∷ row) (omega arith)

Lacks-words : (answer : Reply) → IsInRange answer → Lacks 10 (words_of answer)
Lacks-words (reply.Began id) fits = worded (codes "begin ") id.0 refl (omega arith)
Lacks-words (reply.Inserted rid) fits = Lacks-append 10 (codes "inserted ") (place rid) (Lacks-from_test 10 (codes "inserted ") refl) (Lacks-place rid fits.0 fits.1)
Lacks-words reply.NoSpace fits = Lacks-from_test 10 (codes "nospace") refl
Lacks-words (reply.Row row) fits = Lacks-append 10 (codes "row ") (shown row) (Lacks-from_test 10 (codes "row ") refl) (Lacks-shown row)
Lacks-words reply.NoRow fits = Lacks-from_test 10 (codes "norow") refl
Lacks-words reply.Updated fits = Lacks-from_test 10 (codes "updated") refl
Lacks-words reply.Deleted fits = Lacks-from_test 10 (codes "deleted") refl
Lacks-words (reply.PageFull room) fits = worded (codes "pagefull ") room refl (omega arith)
Lacks-words reply.BadRid fits = Lacks-from_test 10 (codes "badrid") refl
Lacks-words (reply.Saved number) fits = worded (codes "saved ") number refl (omega arith)
Lacks-words (reply.BackTo number) fits = worded (codes "back ") number refl (omega arith)
Lacks-words (reply.NoSavepoint number) fits = worded (codes "nosavepoint ") number refl (omega arith)
Lacks-words reply.Committed fits = Lacks-from_test 10 (codes "committed") refl
Lacks-words reply.Aborted fits = Lacks-from_test 10 (codes "aborted") refl
Lacks-words (reply.Died holder) fits = worded (codes "died ") holder.0 refl (omega arith)
Lacks-words reply.Unbound fits = Lacks-from_test 10 (codes "unbound") refl
Lacks-words reply.Skipped fits = Lacks-from_test 10 (codes "skipped") refl

-- a number, a word and a number
between : (first : ℕ) (word : List ℕ) (second : ℕ) → list_all (λ byte. not (byte == 10)) word ≡ true → first < 2 ^ 64 → second < 2 ^ 64 → Lacks 10 (decimal first ++ word ++ decimal second)
between first word second passes low high =
    then_number (decimal first ++ word) second high (then_word (decimal first) word passes (Lacks-decimal 10 first (omega arith) low))

-- a word and a number twice
twice : (word : List ℕ) (first : ℕ) (next : List ℕ) (second : ℕ) → list_all (λ byte. not (byte == 10)) word ≡ true → list_all (λ byte. not (byte == 10)) next ≡ true → first < 2 ^ 64 → second < 2 ^ 64 → Lacks 10 (word ++ decimal first ++ next ++ decimal second)
twice word first next second passes passes' low high =
    then_number (word ++ decimal first ++ next) second high (then_word (word ++ decimal first) next passes' (worded word first passes low))

turn_is_line : (session : ℕ) (answer : Reply) → session < 2 ^ 8 → IsInRange answer → IsOneLine (turn_line session answer)
turn_is_line session answer small fits =
    let number = then_word (decimal session) (codes " ") refl (Lacks-decimal 10 session (omega arith) (omega arith)) in
    (decimal session ++ codes " " ++ words_of answer, Lacks-append 10 (decimal session ++ codes " ") (words_of answer) number (Lacks-words answer fits), sym (append_assoc (decimal session ++ codes " ") (words_of answer) (codes "\n")))

pub texts_are_lines : TextsAreLines
texts_are_lines = record {
  reply = λ answer fits. (words_of answer, Lacks-words answer fits, refl);
  turn = turn_is_line;
  waits = λ session holder small fits. (_, between session (codes " waits ") holder refl (omega arith) (omega arith), refl);
  unfinished = λ session txn small fits. (_, between session (codes " unfinished ") txn refl (omega arith) (omega arith), refl);
  created = λ pages fits. (codes "created " ++ decimal pages, worded (codes "created ") pages refl (omega arith), refl);
  restart = λ records applied undone r a u.
      let two = twice (codes "records ") records (codes " applied ") applied refl refl r a in
      let before = codes "records " ++ decimal records ++ codes " applied " ++ decimal applied in
      (before ++ codes " undone " ++ decimal undone, then_number (before ++ codes " undone ") undone u (then_word before (codes " undone ") refl two), refl);
  rows = λ rows fits. (codes "rows " ++ decimal rows, worded (codes "rows ") rows refl fits, refl);
  row = λ rid row page slot. (_, Lacks-append 10 (place rid ++ codes " ") (shown row) (then_word (place rid) (codes " ") refl (Lacks-place rid page slot)) (Lacks-shown row), refl);
  entry = λ page category fits small. (codes "entry " ++ decimal page ++ codes " " ++ decimal category, twice (codes "entry ") page (codes " ") category refl refl (omega arith) (omega arith), refl);
  pages = λ pages fits. (codes "pages " ++ decimal pages, worded (codes "pages ") pages refl (omega arith), refl);
  mismatches = λ pages mismatches fits fits'. (codes "pages " ++ decimal pages ++ codes " mismatches " ++ decimal mismatches, twice (codes "pages ") pages (codes " mismatches ") mismatches refl refl (omega arith) (omega arith), refl);
}
