use Rattle.std.proofs.Common.{◌≡◌, List, ℕ, ◌++◌, append_assoc}
use Rattle.rm_record.proofs.writing.append_compensation.Goals as goal

-- five appended, one after the other
joined : (a b c d e f : List ℕ) → ((((a ++ b) ++ c) ++ d) ++ e) ++ f ≡ a ++ (b ++ (c ++ (d ++ (e ++ f))))
joined a b c d e f = simp append_assoc

pub returns-clause-items : goal.returns-clause-items
returns-clause-items c =
    rw (
      c.append_slot.ensures.items,
      c.append_rid.ensures.items,
      c.append-2.ensures.items,
      c.append.ensures.items,
      c.append_head.ensures.items,
      c.to_be_bytes-2.ensures,
      c.to_be_bytes.ensures,
    )
    (joined c.args.out.now.items _ _ _ _ _)
