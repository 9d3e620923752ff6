use Rattle.std.proofs.Common.{◌∙◌}
use Rattle.rm_script.proofs.WordsRead.{put_none, put_more, wrong_word, answered_last}
use Rattle.rm_script.proofs.turns.push_words.Goals as goal

pub loop-first-init : goal.loop-first-init
loop-first-init c = put_none c.args.sessions c.args.text.now c.args.words.now.items

pub returns-then-not-branch : goal.returns-then-not-branch
returns-then-not-branch c =
    let none = rw c.if-not-branch.true at c.in_ok-push_word.ensures in
    let h = c.loop-first.invariant in
    ((h.0, tt, none.0 ∙ h.4), wrong_word c.args.sessions c.args.text.now c.loop-first.rest.now _ _ c.args.words.now.items c.loop-first.words.items h c.in-Some.ensures.some none.1)

pub loop-first-preserved : goal.loop-first-preserved
loop-first-preserved c =
    let word = rw c.if-not-branch.false at c.in_ok-push_word.ensures in
    put_more c.args.sessions c.args.text.now c.loop-first.rest.now _ c.in-Some.after.now c.args.words.now.items c.loop-first.words.items c.push_word.new.words.items c.loop-first.invariant c.in-Some.ensures.some word

pub returns : goal.returns
returns c =
    answered_last c.args.sessions c.args.text.now c.loop-first.rest.now c.args.words.now.items c.loop-first.words.items c.push_word-2.new.words.items c.push_word-2.result c.loop-first.invariant c.in_default.ensures.none c.push_word-2.ensures
