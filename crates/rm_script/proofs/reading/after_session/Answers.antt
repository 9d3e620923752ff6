use Rattle.std.proofs.Common.{◌≡◌, ◌++◌, codes, Some, arith}
use Rattle.std.proofs.lemmas.Bool.Decides.{Decides-eqb}
use Rattle.std.proofs.lemmas.Slice.Eq.{strip_prefix_is}
use Rattle.rm_script.proofs.SessionsRead.{is_session, other_session}
use Rattle.rm_script.proofs.reading.after_session.Goals as goal

pub returns-then-session-count-clause-some : goal.returns-then-session-count-clause-some
returns-then-session-count-clause-some c =
    let cut : c.in_ok-text.text.now ≡ codes "session " ++ c.in_ok-strip_prefix.field-0.now = strip_prefix_is Decides-eqb c.in_ok-text.text.now (codes "session ") (Some c.in_ok-strip_prefix.field-0) c.in_ok-strip_prefix.ensures.cases in
    is_session _ _ c.in_ok-text.text.now c.in_ok-strip_prefix.field-0.now c.args.count c.in_ok-session.session c.in_ok-text.ensures.some cut c.in_ok-session.ensures.some c.if-session-count.true

pub returns-else-session-count-clause-none : goal.returns-else-session-count-clause-none
returns-else-session-count-clause-none c = λ few.
    let cut : c.in_ok-text.text.now ≡ codes "session " ++ c.in_ok-strip_prefix.field-0.now = strip_prefix_is Decides-eqb c.in_ok-text.text.now (codes "session ") (Some c.in_ok-strip_prefix.field-0) c.in_ok-strip_prefix.ensures.cases in
    other_session _ _ c.in_ok-text.text.now c.in_ok-strip_prefix.field-0.now c.args.count c.in_ok-session.session few (omega arith) c.in_ok-text.ensures.some cut c.in_ok-session.ensures.some c.if-session-count.false
