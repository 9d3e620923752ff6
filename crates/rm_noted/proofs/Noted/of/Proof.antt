-- `of` makes the empty struct, at the value that the caller picks.
use Rattle.std.proofs.Common.{[], ◌∷◌, refl}
use Rattle.std.proofs.raw_atomic.Walks.{proved}
use mir.MapTy.{inst_fn}
use mir.Syntax.{a_type, named}
use mir.Val.{Val, vptr, vstruct, vcons, vnil}
use types.Kit.{‵, raw, ◌⊛◌, ◌$◌, ◌∵◌, !, qed, move, keep, split, suffices, done}
use types.Part.{agg}
use types.Run.{no_more, and_then, returns, enter}
use types.ByLocal.{alloc_all, pass_all, free_all, look_at, get, sets}
use denote.Exit.{yes}
use denote.Param.{param, layouts}
use denote.RattleType.{owns}
use denote.Ref.{shr_vals, shr_Tells}
use denote.Shadow.{pure_i}
use denote.Signature.{plain, types_at}
use denote.Triple.Entry.{alive}
use denote.Triple.Walked.{says, stay_none_ref, Stays, walk_of, ends_at, Goes-none_ref}
use Rattle.rm_noted.specs.contracts.Noted as noted
use Rattle.rm_noted.specs.contracts.Noted.of as f
use Rattle.rm_noted.proofs.Noted.of.Statement.{statement}
use Rattle.rm_noted.proofs.Noted.of.Code as code

pub of_spec : {M : Type 1} → statement M
of_spec 𝓤 𝓛 𝓜 𝓡 wired V A LV LA =
    let R = param 1 A in let T = f.ended V A in let S = T.signature in let c = f.clauses V A 𝓛 𝓜.mem 𝓡.returns in
    let args = layouts (a_type ∷ a_type ∷ []) (V, (A, tt)) in
    let stayed : Stays S.params T.kept = (stay_none_ref (0 ∷ []) tt (plain (λ _. R)) yes, tt) in let W = walk_of 𝓛 T stayed c in
    proved 𝓛 T stayed c 𝓜 𝓡 (Goes-none_ref 𝓛 3 (0 ∷ []) tt (plain (λ _. R)) yes, tt)
    (f.Key.name args) (inst_fn args code.function) (code.unfolded 𝓤 𝓛.H 𝓜 𝓡 wired (V, (A, tt)))
    (λ κs. (shr_vals, tt)) (λ κs. (shr_Tells (named 0) κs.0 R, tt)) (λ κs qs bounds a value are.
    let p = vptr a.0.ref_ptr.0 a.0.ref_ptr.1 in let y : W.Ghost = ((κs, qs, bounds, a, (p ∷ [], tt)), value) in
    let row = noted.the_row (param 0 V) in let v : Val = vstruct (vcons (vstruct vnil) vnil) in
    qed 𝓛 ((raw (alive 𝓛 S κs qs) ⊛ ‵ (owns (types_at S.params κs) a y.0.4)) ∷ raw ((c κs a).requires value) ∷ []) ∵ keep ! (0 ∷ []) $ split ! $
    enter ! _ _ _ _ _ $ alloc_all ! (λ l. pass_all ! refl ((tt, tt), tt) $
    sets ! (agg ! (no_more !)) refl (tt, tt) $ sets ! (agg ! (and_then ! (get ! refl) (no_more !))) refl (tt, (tt, tt)) $
    returns ! (look_at ! 0 refl) $ free_all ! refl $
    suffices ! _ (ends_at 𝓛 T stayed c y v value (tt, tt) (tt, tt)) $ says ! refl $
    pure_i ! (row.own_val value (v ∷ [])) (λ x. (((λ vss. (tt, ((λ uss. (tt, tt)), tt))), tt), tt))
    ((record { of = record {}; value = value }, (refl, tt)), ((((vstruct vnil ∷ [], tt), (refl, ((tt, (refl, tt)), tt))), tt), tt)) $
    move ! (1 ∷ 2 ∷ 0 ∷ []) $ done !))
