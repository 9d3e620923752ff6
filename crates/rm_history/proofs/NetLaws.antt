-- What is pending is the net changes of a transaction that is not finished.
use Rattle.std.proofs.Common.{◌≡◌, ◌⊎◌, inl, inr, ℕ, ◌<◌, Bool, true, ◌||◌, cond, eqb, List, [], ◌∷◌, refl, sym, ap, subst, ◌∙◌, arith}
use Rattle.std.proofs.lemmas.Bool.{cases_eq, cases_Bool, eq-eqb, ne_eqb, cond-true, cond-false, or_left, or_right}
use Rattle.rm_history.specs.Acts.{Act, Change, Undo, Finish, History, changes, undoes, enters, commits, ends, marks, newest_lsn}
use Rattle.rm_history.specs.Pending.{older, pending_of}
use Rattle.rm_history.specs.Transactions.{IsFinished}
use Rattle.rm_history.specs.Rules.{MayUndo, IsInOrder}
use Rattle.rm_history.specs.Literal.{is_undone, net_among}
use Rattle.rm_history.specs.LiteralLaws.{NetIsPending}
use Rattle.rm_history.proofs.NetLists.{HasLogged, net_kept, net_undone, net_foreign, net_agree, net-reverse}
use Rattle.rm_history.proofs.ChangeLsns.{logged_below, logged_once, undone_is_logged, not_undone_yet}

-- the record is no change and no compensation of the transaction
abbrev pub IsForeign : Act → ℕ → Type 0
IsForeign (changes c) txn = c.txn ≡ txn → ⊥
IsForeign (undoes u) txn = u.txn ≡ txn → ⊥
IsForeign (enters e) txn = Unit {0}
IsForeign (commits f) txn = Unit {0}
IsForeign (ends f) txn = Unit {0}
IsForeign (marks m) txn = Unit {0}

-- a compensation of another transaction names no change of this one
undo_agrees : (before : History) (u : Undo) (txn lsn : ℕ) → IsInOrder before → MayUndo before u → (u.txn ≡ txn → ⊥) → HasLogged before lsn txn
    → is_undone lsn (undoes u ∷ before) ≡ is_undone lsn before
undo_agrees before u txn lsn in_order may foreign had = elim (cases_eq u.undone lsn) [
  | inl same ↦
      let named : HasLogged before lsn u.txn = subst (λ (n : ℕ). HasLogged before n u.txn) same (undone_is_logged before u may) in
      absurd (foreign (logged_once before lsn u.txn txn in_order named had))
  | inr other ↦ ap (λ (b : Bool). b || is_undone lsn before) (ne_eqb u.undone lsn other)
]

-- a record of another transaction leaves the net changes as they are
pub net_stays : (act : Act) (before : History) (txn : ℕ) → IsInOrder (act ∷ before) → IsForeign act txn
    → net_among (act ∷ before) txn (act ∷ before) ≡ net_among before txn before
net_stays (changes c) before txn in_order foreign =
    net_foreign (changes c ∷ before) txn c before (ne_eqb c.txn txn foreign) ∙ net_agree (changes c ∷ before) before txn before (λ lsn had. refl)
net_stays (undoes u) before txn in_order foreign =
    net_agree (undoes u ∷ before) before txn before (λ lsn had. undo_agrees before u txn lsn in_order.0 in_order.1.may_come foreign had)
net_stays other before txn in_order foreign = net_agree (other ∷ before) before txn before (λ lsn had. refl)

-- a change of the transaction is the newest of its net changes
net_grows : (c : Change) (before : History) (txn : ℕ) → IsInOrder (changes c ∷ before) → c.txn ≡ txn
    → net_among (changes c ∷ before) txn (changes c ∷ before) ≡ c ∷ net_among before txn before
net_grows c before txn in_order mine =
    net_kept (changes c ∷ before) txn c before (eq-eqb c.txn txn mine) (not_undone_yet before c.lsn in_order.0 in_order.1.above)
    ∙ ap (λ (l : List Change). c ∷ l) (net_agree (changes c ∷ before) before txn before (λ lsn had. refl))

-- what is named now is undone
named_now : (u : Undo) (log : History) (lsn : ℕ) → u.undone ≡ lsn → is_undone lsn (undoes u ∷ log) ≡ true
named_now u log lsn named = or_left (eqb u.undone lsn) (is_undone lsn log) (eq-eqb u.undone lsn named)

-- what was undone before is so still
named_before : (u : Undo) (log : History) (lsn : ℕ) → is_undone lsn log ≡ true → is_undone lsn (undoes u ∷ log) ≡ true
named_before u log lsn undone = or_right (eqb u.undone lsn) (is_undone lsn log) undone

-- a compensation of what came later names none of these changes
named_no_older : (u : Undo) (log acts : History) (txn lsn : ℕ) → IsInOrder acts → newest_lsn acts < u.undone → HasLogged acts lsn txn
    → is_undone lsn (undoes u ∷ log) ≡ is_undone lsn log
named_no_older u log acts txn lsn in_order above had =
    ap (λ (b : Bool). b || is_undone lsn log) (ne_eqb u.undone lsn (λ same. omega (arith, same, above, logged_below acts lsn txn in_order had)))

-- a compensation of the newest net change takes it away, and no older one
net_shrinks : (u : Undo) (log : History) (txn : ℕ) (acts : History) (last : Change) (rest : List Change) → IsInOrder acts → u.undone ≡ last.lsn
    → net_among log txn acts ≡ last ∷ rest → net_among (undoes u ∷ log) txn acts ≡ rest
net_shrinks u log txn [] last rest in_order named is = absurd (cc)
net_shrinks u log txn (changes c ∷ acts) last rest in_order named is = elim (cases_eq c.txn txn) [
  | inr foreign ↦
      let other = ne_eqb c.txn txn foreign in
      net_foreign (undoes u ∷ log) txn c acts other ∙ net_shrinks u log txn acts last rest in_order.0 named (sym (net_foreign log txn c acts other) ∙ is)
  | inl same ↦
      let mine = eq-eqb c.txn txn same in
      elim (cases_Bool (is_undone c.lsn log)) [
        | inl undone ↦
            net_undone (undoes u ∷ log) txn c acts mine (named_before u log c.lsn undone)
            ∙ net_shrinks u log txn acts last rest in_order.0 named (sym (net_undone log txn c acts mine undone) ∙ is)
        | inr kept ↦
            let both : c ∷ net_among log txn acts ≡ last ∷ rest = sym (net_kept log txn c acts mine kept) ∙ is in
            let newest : c ≡ last = cc in
            let older_ones : net_among log txn acts ≡ rest = cc in
            let number : u.undone ≡ c.lsn = named ∙ ap (λ (d : Change). d.lsn) (sym newest) in
            net_undone (undoes u ∷ log) txn c acts mine (named_now u log c.lsn number)
            ∙ net_agree (undoes u ∷ log) log txn acts (λ lsn had. named_no_older u log acts txn lsn in_order.0 (omega (arith, number, in_order.1.above)) had)
            ∙ older_ones
      ]
]
net_shrinks u log txn (other ∷ acts) last rest in_order named is = net_shrinks u log txn acts last rest in_order.0 named is

-- ---- what is pending, the newest first

-- the transaction's net changes are what is pending
abbrev IsNet : History → ℕ → Type 0
IsNet history txn = net_among history txn history ≡ pending_of history txn

-- also after a change,
net_after_change : (c : Change) (before : History) (txn : ℕ) → IsInOrder (changes c ∷ before) → IsNet before txn → IsNet (changes c ∷ before) txn
net_after_change c before txn in_order same =
    let listed = pending_of before txn in
    elim (cases_eq c.txn txn) [
      | inl mine ↦
          net_grows c before txn in_order mine ∙ ap (λ (l : List Change). c ∷ l) same
          ∙ sym (cond-true (eqb c.txn txn) (c ∷ listed) listed (eq-eqb c.txn txn mine))
      | inr foreign ↦
          net_stays (changes c) before txn in_order foreign ∙ same ∙ sym (cond-false (eqb c.txn txn) (c ∷ listed) listed (ne_eqb c.txn txn foreign))
    ]

-- after a compensation,
net_after_undo : (u : Undo) (before : History) (txn : ℕ) → IsInOrder (undoes u ∷ before) → IsNet before txn → IsNet (undoes u ∷ before) txn
net_after_undo u before txn in_order same =
    let listed = pending_of before txn in
    elim (cases_eq u.txn txn) [
      | inl mine ↦
          let may = in_order.1.may_come in
          let is : listed ≡ may.last ∷ may.is_last.0 = ap (λ (t : ℕ). pending_of before t) (sym mine) ∙ may.is_last.1 in
          net_shrinks u before txn before may.last may.is_last.0 in_order.0 may.undone_is (same ∙ is)
          ∙ ap older (sym is)
          ∙ sym (cond-true (eqb u.txn txn) (older listed) listed (eq-eqb u.txn txn mine))
      | inr foreign ↦
          net_stays (undoes u) before txn in_order foreign ∙ same ∙ sym (cond-false (eqb u.txn txn) (older listed) listed (ne_eqb u.txn txn foreign))
    ]

-- and after the end of another transaction
pending_stays : (f : Finish) (before : History) (txn : ℕ) → ((f.txn ≡ txn) ⊎ IsFinished before txn → ⊥)
    → cond (eqb f.txn txn) [] (pending_of before txn) ≡ pending_of before txn
pending_stays f before txn unfinished = cond-false (eqb f.txn txn) [] (pending_of before txn) (ne_eqb f.txn txn (λ same. unfinished (inl same)))

-- so after all records, while it is not finished
pub pending_is_net : (history : History) → IsInOrder history → (txn : ℕ) → (IsFinished history txn → ⊥) → IsNet history txn
pending_is_net [] in_order txn unfinished = refl
pending_is_net (changes c ∷ before) in_order txn unfinished = net_after_change c before txn in_order (pending_is_net before in_order.0 txn unfinished)
pending_is_net (undoes u ∷ before) in_order txn unfinished = net_after_undo u before txn in_order (pending_is_net before in_order.0 txn unfinished)
pending_is_net (enters e ∷ before) in_order txn unfinished = net_stays (enters e) before txn in_order tt ∙ pending_is_net before in_order.0 txn unfinished
pending_is_net (commits f ∷ before) in_order txn unfinished =
    net_stays (commits f) before txn in_order tt ∙ pending_is_net before in_order.0 txn (λ done. unfinished (inr done))
    ∙ sym (pending_stays f before txn unfinished)
pending_is_net (ends f ∷ before) in_order txn unfinished =
    net_stays (ends f) before txn in_order tt ∙ pending_is_net before in_order.0 txn (λ done. unfinished (inr done))
    ∙ sym (pending_stays f before txn unfinished)
pending_is_net (marks m ∷ before) in_order txn unfinished = net_stays (marks m) before txn in_order tt ∙ pending_is_net before in_order.0 txn unfinished

-- the two ways of saying what is pending are one
pub net_is_pending : NetIsPending
net_is_pending history in_order txn unfinished = net-reverse history txn ∙ pending_is_net history in_order txn unfinished
