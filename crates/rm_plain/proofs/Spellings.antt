-- Texts that spell no line, by what their parts spell.
use Rattle.std.proofs.Common.{◌≡◌, ◌≢◌, ℕ, ◌<◌, List, ◌∷◌, ◌++◌, get_or, drop, codes, Option, Some, None, IfSome, MatchOption, sym, ap, subst, ◌∙◌, arith}
use Rattle.std.specs.Option.{IsSomeAnd}
use Rattle.rm_events.specs.declared.lines.Target.{Target}
use Rattle.rm_plain.specs.declared.lines.Line.{Line}
use Rattle.rm_plain.specs.declared.lines.Line.TheVariants as line
use Rattle.rm_plain.specs.Grammar.{IsLine, IsWrong}
use Rattle.rm_script.specs.Cuts.{IsCut}
use Rattle.rm_script.specs.Rows.{IsRow}
use Rattle.rm_script.specs.Targets.{IsTarget, name_text}
use Rattle.rm_script.proofs.CutLaws.{same_cut, Lacks-name_text}

-- texts that begin with different bytes are apart
apart : (text other : List ℕ) → get_or text 0 0 ≢ get_or other 0 0 → text ≡ other → ⊥
apart text other differ e = differ (ap (λ t. get_or t 0 0) e)

-- after `insert ` stands an insert or no line
pub no_insert : (text : List ℕ) → ((name : ℕ) (row spelling : List ℕ) → name < 26 → IsRow row spelling → text ≡ name_text name ++ 32 ∷ spelling → ⊥) → IsWrong (codes "insert " ++ text)
no_insert text none line.Begin p = apart _ _ (λ e. omega (arith, e)) p
no_insert text none (line.Insert name row) p = none name row p.1.0 p.0 p.1.1 (ap (drop 7) p.1.2)
no_insert text none (line.Read aim) p = apart _ _ (λ e. omega (arith, e)) p.2
no_insert text none line.Commit p = apart _ _ (λ e. omega (arith, e)) p

pub no_insert_name : (text name row : List ℕ) → IsCut 32 text name row → ((n : ℕ) → n < 26 → name ≡ name_text n → ⊥) → IsWrong (codes "insert " ++ text)
no_insert_name text name row cut none = no_insert text (λ n bytes spelling p q e.
    let same = same_cut 32 name row (name_text n) spelling cut.is_first (Lacks-name_text 32 n (omega arith) (omega arith)) (sym cut.whole ∙ e) in
    none n p same.0)

pub no_insert_row : (text name row : List ℕ) → IsCut 32 text name row → ((bytes : List ℕ) → IsRow bytes row → ⊥) → IsWrong (codes "insert " ++ text)
no_insert_row text name row cut none = no_insert text (λ n bytes spelling p q e.
    let same = same_cut 32 name row (name_text n) spelling cut.is_first (Lacks-name_text 32 n (omega arith) (omega arith)) (sym cut.whole ∙ e) in
    none bytes (rw (sym same.1) at q))

-- a target that was read is a line that reads it
pub read_of : (text spelling : List ℕ) (found : Option Target) (r : Option Line) → text ≡ codes "read " ++ spelling → IfSome found (λ aim. IsTarget aim spelling) → MatchOption found (r ≡ None) (λ aim. IsSomeAnd r (λ said. said ≡ line.Read aim)) → IfSome r (λ said. IsLine said text)
read_of text spelling None None e h m = tt
read_of text spelling None (Some said) e h m = absurd (cc)
read_of text spelling (Some aim) None e h m = tt
read_of text spelling (Some aim) (Some said) e h m = subst (λ l. IsLine l text) (sym m) (spelling, h, e)
