-- A text spells one line at most, and which texts spell none.
use Rattle.std.proofs.Common.{◌≡◌, ℕ, ◌+◌, ◌*◌, ◌<◌, ◌==◌, true, not, List, ◌∷◌, ◌++◌, get_or, drop, codes, decimal, refl, sym, ap, ◌∙◌, subst, arith}
use Rattle.std.specs.List.{list_all}
use Rattle.std.proofs.lemmas.Fmt.{decimal_injective}
use Rattle.rm_events.specs.declared.lines.Line.{Line}
use Rattle.rm_events.specs.declared.lines.Line.TheVariants as line
use Rattle.rm_events.specs.declared.lines.Target.{Target}
use Rattle.rm_script.specs.Cuts.{IsCut, Lacks}
use Rattle.rm_script.specs.Operations.{IsLine, IsOnTarget, IsOnSavepoint, IsWrong}
use Rattle.rm_script.specs.Rows.{IsRow}
use Rattle.rm_script.specs.Targets.{IsTarget, name_text}
use Rattle.rm_script.proofs.CutLaws.{same_cut, no_cut, Lacks-from_test, Lacks-name_text}
use Rattle.rm_script.proofs.RowLaws.{same_row}
use Rattle.rm_script.proofs.TargetLaws.{same_target, Lacks-target}

-- the first two bytes of a text, by which lines are told apart
abbrev pub mark : List ℕ → ℕ
mark text = get_or text 0 0 * 256 + get_or text 1 0

-- the word that a line begins with
abbrev pub word_text : Line → List ℕ
word_text line.Begin = codes "begin"
word_text (line.Insert name row) = codes "insert"
word_text (line.Read aim) = codes "read"
word_text (line.Update aim row) = codes "update"
word_text (line.Delete aim) = codes "delete"
word_text (line.Save number) = codes "save"
word_text (line.Back number) = codes "back"
word_text line.Commit = codes "commit"
word_text line.Abort = codes "abort"

pub marked : (said : Line) (text : List ℕ) → IsLine said text → mark text ≡ mark (word_text said)
marked line.Begin text p = ap mark p
marked (line.Insert name row) text p = ap mark p.3
marked (line.Read aim) text p = ap mark p.2
marked (line.Update aim row) text p = ap mark p.4
marked (line.Delete aim) text p = ap mark p.2
marked (line.Save number) text p = ap mark p.1
marked (line.Back number) text p = ap mark p.1
marked line.Commit text p = ap mark p
marked line.Abort text p = ap mark p

-- after `insert ` stands an insert or no line
no_insert : (text : List ℕ) → ((name : ℕ) (row spelling : List ℕ) → name < 26 → IsRow row spelling → text ≡ name_text name ++ 32 ∷ spelling → ⊥) → IsWrong (codes "insert " ++ text)
no_insert text none (line.Insert name row) p = none name row p.0 p.1 p.2 (ap (drop 7) p.3)
no_insert text none said p = absurd (omega (arith, marked said _ p))

pub no_insert_name : (text name row : List ℕ) → IsCut 32 text name row → ((n : ℕ) → n < 26 → name ≡ name_text n → ⊥) → IsWrong (codes "insert " ++ text)
no_insert_name text name row cut none = no_insert text (λ n bytes spelling p q e.
    let same = same_cut 32 name row (name_text n) spelling cut.is_first (Lacks-name_text 32 n (omega arith) (omega arith)) (sym cut.whole ∙ e) in
    none n p same.0)

pub no_insert_row : (text name row : List ℕ) → IsCut 32 text name row → ((bytes : List ℕ) → IsRow bytes row → ⊥) → IsWrong (codes "insert " ++ text)
no_insert_row text name row cut none = no_insert text (λ n bytes spelling p q e.
    let same = same_cut 32 name row (name_text n) spelling cut.is_first (Lacks-name_text 32 n (omega arith) (omega arith)) (sym cut.whole ∙ e) in
    none bytes (rw (sym same.1) at q))

-- after `update ` stands an update or no line
no_update : (text : List ℕ) → ((aim : Target) (row aimed spelling : List ℕ) → IsTarget aim aimed → IsRow row spelling → text ≡ aimed ++ 32 ∷ spelling → ⊥) → IsWrong (codes "update " ++ text)
no_update text none (line.Update aim row) p = none aim row p.0 p.1 p.2 p.3 (ap (drop 7) p.4)
no_update text none said p = absurd (omega (arith, marked said _ p))

pub no_update_space : (text : List ℕ) → Lacks 32 text → IsWrong (codes "update " ++ text)
no_update_space text lacks = no_update text (λ aim row aimed spelling p q e. no_cut 32 text aimed spelling lacks e)

pub no_update_target : (text first second : List ℕ) → IsCut 32 text first second → ((aim : Target) → IsTarget aim first → ⊥) → IsWrong (codes "update " ++ text)
no_update_target text first second cut none = no_update text (λ aim row aimed spelling p q e.
    let same = same_cut 32 first second aimed spelling cut.is_first (Lacks-target aim aimed p) (sym cut.whole ∙ e) in
    none aim (subst (IsTarget aim) (sym same.0) p))

pub no_update_row : (text first second : List ℕ) → IsCut 32 text first second → ((bytes : List ℕ) → IsRow bytes second → ⊥) → IsWrong (codes "update " ++ text)
no_update_row text first second cut none = no_update text (λ aim row aimed spelling p q e.
    let same = same_cut 32 first second aimed spelling cut.is_first (Lacks-target aim aimed p) (sym cut.whole ∙ e) in
    none row (subst (IsRow row) (sym same.1) q))

-- the word before the first space of a line is its own
word_is : (word argument own rest : List ℕ) → Lacks 32 word → list_all (λ other. not (other == 32)) own ≡ true → word ++ 32 ∷ argument ≡ own ++ 32 ∷ rest → word ≡ own
word_is word argument own rest lacks passes e = (same_cut 32 word argument own rest lacks (Lacks-from_test 32 own passes) e).0

-- a text without a space is not cut there
lone : (word argument own : List ℕ) → list_all (λ other. not (other == 32)) own ≡ true → word ++ 32 ∷ argument ≡ own → ⊥
lone word argument own passes e = no_cut 32 own word argument (Lacks-from_test 32 own passes) (sym e)

-- a text with another word before its first space is no line
pub no_word : (word argument : List ℕ) → Lacks 32 word → (word ≡ codes "insert" → ⊥) → (word ≡ codes "update" → ⊥) → (word ≡ codes "read" → ⊥) → (word ≡ codes "delete" → ⊥) → (word ≡ codes "save" → ⊥) → (word ≡ codes "back" → ⊥) → IsWrong (word ++ 32 ∷ argument)
no_word word argument l i u r d s b line.Begin p = lone word argument (codes "begin") refl p
no_word word argument l i u r d s b (line.Insert name row) p = i (word_is word argument (codes "insert") _ l refl p.3)
no_word word argument l i u r d s b (line.Read aim) p = r (word_is word argument (codes "read") _ l refl p.2)
no_word word argument l i u r d s b (line.Update aim row) p = u (word_is word argument (codes "update") _ l refl p.4)
no_word word argument l i u r d s b (line.Delete aim) p = d (word_is word argument (codes "delete") _ l refl p.2)
no_word word argument l i u r d s b (line.Save number) p = s (word_is word argument (codes "save") _ l refl p.1)
no_word word argument l i u r d s b (line.Back number) p = b (word_is word argument (codes "back") _ l refl p.1)
no_word word argument l i u r d s b line.Commit p = lone word argument (codes "commit") refl p
no_word word argument l i u r d s b line.Abort p = lone word argument (codes "abort") refl p

same_on_target : (word text : List ℕ) (a b : Target) → ((t u : List ℕ) → word ++ t ≡ word ++ u → t ≡ u) → IsOnTarget word a text → IsOnTarget word b text → a ≡ b
same_on_target word text a b off p q = same_target a b q.0 (subst (IsTarget a) (off p.0 q.0 (sym p.2 ∙ q.2)) p.1) q.1

same_savepoint : (word text : List ℕ) (m n : ℕ) → ((t u : List ℕ) → word ++ t ≡ word ++ u → t ≡ u) → IsOnSavepoint word m text → IsOnSavepoint word n text → m ≡ n
same_savepoint word text m n off p q = decimal_injective m n (omega (arith, p.0)) (omega (arith, q.0)) (off (decimal m) (decimal n) (sym p.1 ∙ q.1))

-- no text spells two lines
pub same_line : (a b : Line) (text : List ℕ) → IsLine a text → IsLine b text → a ≡ b
same_line line.Begin line.Begin text p q = refl
same_line (line.Insert m r) (line.Insert n s) text p q =
    let e : codes "insert " ++ (name_text m ++ 32 ∷ p.0) ≡ codes "insert " ++ (name_text n ++ 32 ∷ q.0) = sym p.3 ∙ q.3 in
    let name : m ≡ n = omega (arith, ap (λ t. get_or t 8 0) e) in
    let row = same_row r s q.0 (subst (IsRow r) (ap (drop 10) e) p.2) q.2 in
    ap (λ k. line.Insert k r) name ∙ ap (line.Insert n) row
same_line (line.Read t) (line.Read u) text p q = ap line.Read (same_on_target (codes "read ") text t u (λ x y e. ap (drop 5) e) p q)
same_line (line.Update t r) (line.Update u s) text p q =
    let cut = same_cut 32 p.0 p.1 q.0 q.1 (Lacks-target t p.0 p.2) (Lacks-target u q.0 q.2) (ap (drop 7) (sym p.4 ∙ q.4)) in
    let aim = same_target t u q.0 (subst (IsTarget t) cut.0 p.2) q.2 in
    let row = same_row r s q.1 (subst (IsRow r) cut.1 p.3) q.3 in
    ap (λ k. line.Update k r) aim ∙ ap (line.Update u) row
same_line (line.Delete t) (line.Delete u) text p q = ap line.Delete (same_on_target (codes "delete ") text t u (λ x y e. ap (drop 7) e) p q)
same_line (line.Save m) (line.Save n) text p q = ap line.Save (same_savepoint (codes "save ") text m n (λ x y e. ap (drop 5) e) p q)
same_line (line.Back m) (line.Back n) text p q = ap line.Back (same_savepoint (codes "back ") text m n (λ x y e. ap (drop 5) e) p q)
same_line line.Commit line.Commit text p q = refl
same_line line.Abort line.Abort text p q = refl
same_line a b text p q = absurd (omega (arith, marked a text p, marked b text q))
