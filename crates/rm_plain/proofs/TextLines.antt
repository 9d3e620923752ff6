-- Each text is written as one line: no part of it but its last byte is an LF.
use Rattle.std.proofs.Common.{◌++◌, codes, decimal, refl, sym, arith, append_assoc}
use Rattle.rm_types.specs.declared.operations.Reply.{Reply}
use Rattle.rm_types.specs.declared.operations.Reply.TheVariants as reply
use Rattle.rm_plain.specs.Laws.{IsInRange, TextsAreLines}
use Rattle.rm_plain.specs.Texts.{words_of}
use Rattle.rm_script.specs.Cuts.{Lacks}
use Rattle.rm_script.specs.Targets.{place}
use Rattle.rm_script.specs.Texts.{shown}
use Rattle.rm_script.proofs.CutLaws.{Lacks-append, Lacks-decimal, Lacks-from_test}
use Rattle.rm_script.proofs.TextLines.{Lacks-place, Lacks-shown, then_word, worded}

Lacks-words : (answer : Reply) → IsInRange answer → Lacks 10 (words_of answer)
Lacks-words (reply.Began id) fits = worded (codes "begin ") id.0 refl (omega arith)
Lacks-words (reply.Inserted rid) fits = Lacks-append 10 (codes "inserted ") (place rid) (Lacks-from_test 10 (codes "inserted ") refl) (Lacks-place rid fits.0 fits.1)
Lacks-words reply.NoSpace fits = Lacks-from_test 10 (codes "nospace") refl
Lacks-words (reply.Row row) fits = Lacks-append 10 (codes "row ") (shown row) (Lacks-from_test 10 (codes "row ") refl) (Lacks-shown row)
Lacks-words reply.NoRow fits = Lacks-from_test 10 (codes "norow") refl
Lacks-words reply.BadRid fits = Lacks-from_test 10 (codes "badrid") refl
Lacks-words reply.Committed fits = Lacks-from_test 10 (codes "committed") refl
Lacks-words reply.Unbound fits = Lacks-from_test 10 (codes "unbound") refl
Lacks-words reply.Skipped fits = Lacks-from_test 10 (codes "skipped") refl

pub texts_are_lines : TextsAreLines
texts_are_lines = record {
  reply = λ answer fits. (words_of answer, Lacks-words answer fits, refl);
  turn = λ session answer small fits.
      let number = then_word (decimal session) (codes " ") refl (Lacks-decimal 10 session (omega arith) (omega arith)) in
      (decimal session ++ codes " " ++ words_of answer, Lacks-append 10 (decimal session ++ codes " ") (words_of answer) number (Lacks-words answer fits), sym (append_assoc (decimal session ++ codes " ") (words_of answer) (codes "\n")));
}
