-- A stack is kept with its newest change last.
use Rattle.rm_desk.proofs.Names.{◌≡◌, ◌<◌, ◌-◌, ◌≤◌, List, [], ◌∷◌, length, refl, sym, ap, ◌∙◌, arith, PendingChange, rest_of, top_of}
use Rattle.std.proofs.Common.{reverse, get_or}
use Rattle.std.proofs.lemmas.List.{get_or-reverse, length-reverse}

second_is : (changes : List PendingChange) (d : PendingChange) → 2 ≤ length changes → (get_or changes 1 d).lsn.0 ≡ top_of (rest_of changes)
second_is [] d long = absurd (omega arith)
second_is (newest ∷ []) d long = absurd (omega arith)
second_is (newest ∷ second ∷ rest) d long = refl

pub under_in_items : (items : List PendingChange) (d : PendingChange) → 2 ≤ length items → (get_or items (length items - 2) d).lsn.0 ≡ top_of (rest_of (reverse items))
under_in_items items d long =
    let at : length items - 1 - 1 ≡ length items - 2 = omega arith in
    let is : get_or (reverse items) 1 d ≡ get_or items (length items - 1 - 1) d = get_or-reverse items 1 d (omega arith) in
    ap (λ (c : PendingChange). c.lsn.0) (ap (λ n. get_or items n d) (sym at) ∙ sym is) ∙ second_is (reverse items) d (omega (arith, length-reverse items))

short_is : (changes : List PendingChange) → length changes < 2 → 0 ≡ top_of (rest_of changes)
short_is [] short = refl
short_is (newest ∷ []) short = refl
short_is (newest ∷ second ∷ rest) short = absurd (omega arith)

pub none_in_items : (items : List PendingChange) → length items < 2 → 0 ≡ top_of (rest_of (reverse items))
none_in_items items short = short_is (reverse items) (omega (arith, length-reverse items))
