-- The definitions of replies' texts, computed on examples.
use Rattle.std.proofs.Common.{◌≡◌, [], ◌∷◌, codes, refl}
use Rattle.std.specs.Fmt.{digits}
use Rattle.rm_types.specs.declared.operations.Reply.TheVariants as reply
use Rattle.rm_plain.specs.Texts.{text_of, texts_of, turn_line, turn_lines}

pub text_of-inserted : text_of (reply.Inserted (record { page = 3; slot = 14 })) ≡ codes "inserted 3.14\n"
unfolding digits
text_of-inserted = refl

pub text_of-began : text_of (reply.Began (record { 0 = 4294967295 })) ≡ codes "begin 4294967295\n"
unfolding digits
text_of-began = refl

pub text_of-empty_row : text_of (reply.Row []) ≡ codes "row -\n"
text_of-empty_row = refl

pub text_of-row : text_of (reply.Row (10 ∷ 255 ∷ [])) ≡ codes "row 0aff\n"
text_of-row = refl

pub texts_of-two : texts_of (reply.Row (10 ∷ 255 ∷ []) ∷ reply.NoRow ∷ []) ≡ codes "row 0aff\nnorow\n"
texts_of-two = refl

pub turn_line-began : turn_line 1 (reply.Began (record { 0 = 3 })) ≡ codes "1 begin 3\n"
unfolding digits
turn_line-began = refl

pub turn_lines-two : turn_lines 1 (reply.Row (10 ∷ 255 ∷ []) ∷ reply.NoRow ∷ []) ≡ codes "1 row 0aff\n1 norow\n"
unfolding digits
turn_lines-two = refl
