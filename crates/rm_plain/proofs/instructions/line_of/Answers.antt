use Rattle.std.proofs.Common.{◌≡◌, List, ℕ, ◌++◌, codes, Some, IfOk, IfSome, subst, sym}
use Rattle.std.proofs.lemmas.Bool.Decides.{Decides-eqb}
use Rattle.std.proofs.lemmas.Slice.Eq.{strip_prefix_is}
use Rattle.rm_plain.specs.Grammar.{IsLine}
use Rattle.rm_plain.proofs.Spellings.{read_of}
use Rattle.rm_plain.proofs.instructions.line_of.Goals as goal

pub returns-in-Some-clause-some : goal.returns-in-Some-clause-some
returns-in-Some-clause-some c =
    let cut : c.args.text.now ≡ codes "insert " ++ c.in-Some.rest.now = strip_prefix_is Decides-eqb c.args.text.now (codes "insert ") (Some c.in-Some.rest) c.in-Some.ensures.cases in
    subst (λ (text : List ℕ). IfOk c.insert_of.result (λ found. IfSome found (λ said. IsLine said text))) (sym cut) c.insert_of.ensures.some

pub returns-in-Some-strip_prefix-clause-some : goal.returns-in-Some-strip_prefix-clause-some
returns-in-Some-strip_prefix-clause-some c =
    let cut : c.args.text.now ≡ codes "read " ++ c.in-Some-strip_prefix.rest.now = strip_prefix_is Decides-eqb c.args.text.now (codes "read ") (Some c.in-Some-strip_prefix.rest) c.in-Some-strip_prefix.ensures.cases in
    read_of c.args.text.now c.in-Some-strip_prefix.rest.now c.target_of.result c.map.result cut c.target_of.ensures.some c.map.ensures.cases
