use Rattle.std.proofs.Common.{◌≡◌, ◌++◌, codes, Some, None, take, ap, ◌∙◌, arith}
use Rattle.std.proofs.lemmas.Bool.Decides.{Decides-eqb}
use Rattle.std.proofs.lemmas.List.{take_at}
use Rattle.std.proofs.lemmas.Slice.Eq.{strip_prefix_is}
use Rattle.rm_script.proofs.TurnLaws.{only_words}
use Rattle.rm_script.proofs.WordsRead.{answered_finish}
use Rattle.rm_script.proofs.turns.push_turn_line.Goals as goal

pub returns-in-Some : goal.returns-in-Some
returns-in-Some c =
    let cut : c.args.text.now ≡ codes "finish " ++ c.in-Some.rounds.now = strip_prefix_is Decides-eqb c.args.text.now (codes "finish ") (Some c.in-Some.rounds) c.in-Some.ensures.cases in
    answered_finish c.args.sessions c.args.text.now c.in-Some.rounds.now c.args.words.now.items c.push_finish.new.words.items c.push_finish.result c.requires cut c.push_finish.ensures

pub returns-then-not-are_words : goal.returns-then-not-are_words
returns-then-not-are_words c =
    let none = rw c.if-not-are_words.true at c.in_ok-are_words.ensures in
    let other = strip_prefix_is Decides-eqb c.args.text.now (codes "finish ") None c.in_default.ensures.cases in
    rw c.if-not-are_words.true (
      c.truncate.ensures.items ∙ ap (λ ws. take c.len-before.result ws) none.0.2 ∙ take_at c.args.words.now.items none.0.0 c.len-before.result (omega (arith, c.len-before.ensures)),
      only_words c.args.sessions c.args.text.now other none.1,
    )
