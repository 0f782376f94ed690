-- `open` gives them back.
use Rattle.std.proofs.Common.{◌≡◌, List, [], ◌∷◌, ◌++◌, refl, sym, subst}
use mir.Syntax.{Fn}
use mir.Raw.{raw as bare}
use mir.Val.{Val, vptr}
use base.Logic.{SProp, ent, emp, never, id⊢, fst∗}
use prog.Wp.{WpFn}
use types.Logic.{sem}
use types.Kit.{‵, raw, ◌⊛◌, ◌$◌, ◌∵◌, !, qed, by, move, keep, use0, split, fsplit, fjoin, suffices, rewrite}
use types.Part.{whole, sub, agg}
use types.Run.{stop, fld, of_opd, no_more, and_then, returns, enter}
use types.ByLocal.{alloc_all, pass_all, free_all, look_at, get, get_in, sets}
use contract.Monad.{fact, fact_i}
use contract.Running.{tables}
use denote.RattleType.{owns}
use denote.RawPtr.{Ptr, block_ptr, null_ptr, ptr_val, in_a_block}
use denote.Signature.{types_at, plain}
use denote.Steps.{nothing, heard}
use denote.Param.{layout}
use denote.Triple.Entry.{alive}
use denote.Triple.Walked.{Stays, stay_dropped, walk_of}
use Rattle.core.proofs.alloc.Calls.{Goes-blank}
use Rattle.std.proofs.raw_atomic.Walks.{proved_at, leaves}
use Rattle.std_alloc.specs.Box.Ownership.{box_owns}
use Rattle.std.proofs.alloc.Global.TheLaws as heap_laws
use Rattle.std.specs.contracts.impls.GlobalAllocator.TheImpl.{ghosts}
use Rattle.std.specs.Prelude.{Option, Some, IsSome}
use Rattle.gtd_handles.specs.declared.handle.Thing.{Thing}
use Rattle.gtd_handles.specs.contracts.handle.Thing.{the_row as thing}
use Rattle.gtd_handles.specs.Owned.{owned}
use Rattle.gtd_handles.proofs.Values.{both, Loose as Parts, loose_good, loose_in}
use Rattle.gtd_handles.proofs.Shut.{Z, Loose, shut_out, the_some}
use Rattle.gtd_handles.specs.contracts.loose.Loose.open.{ended, clauses}
use Rattle.gtd_handles.specs.contracts.loose.Loose.open.Key.{name as #self}
use Rattle.gtd_handles.proofs.loose.Loose.open.Statement.{statement}
use Rattle.gtd_handles.proofs.loose.Loose.open.Code as code

pub open_spec : {M : Type 1} → statement M
open_spec 𝓤 𝓛 𝓜 𝓡 wired =
    let H = 𝓛.H in let C = (tables 𝓤 H 𝓜 𝓡 𝓡.env).C in let Λ = (tables 𝓤 H 𝓜 𝓡 𝓡.env).Λ in let En = ended in
    let c = clauses 𝓛 𝓜.mem 𝓡.returns in let fn : Fn = code.function in
    let hs : Stays En.signature.params En.kept = (stay_dropped (plain (λ _. Loose)) En.kept.0, tt) in
    proved_at 𝓛 En hs c 𝓜 𝓡 (Goes-blank 𝓛 0 (plain (λ _. Loose)) En.kept.0 (λ κs x f. tt), tt) #self fn
    (code.unfolded 𝓤 H 𝓜 𝓡 wired) (λ z are.
    let Post : Val → SProp 𝓤 = (walk_of 𝓛 En hs c).post z in let Run : List Val → SProp 𝓤 = λ ws. WpFn 𝓤 H C Λ fn ws Post in
    let v = z.0.3.0 in let a = v.alloc in
    qed 𝓛 ((raw (alive 𝓛 En.signature z.0.0 z.0.1) ⊛ ‵ (owns (types_at En.signature.params z.0.0) z.0.3 z.0.4)) ∷ raw
    (fact 𝓤 (IsSome v.value)) ∷ []) ∵ move ! (1 ∷ []) $ heard ! (IsSome v.value) (λ given. split ! $ move ! (1 ∷ []) $
    fsplit ! $
    let x : Thing = (the_some v.value given).0 in let is : v.value ≡ Some x = (the_some v.value given).1 in
    shut_out ! v z.0.4.0 (λ h ws fits. rewrite ! 0 (λ (u : Option Thing). ‵ (owned thing a v.at u)) is refl $
    in_a_block ! v.at (λ p. box_owns (ghosts.dealloc_token a) thing p x) (fst∗ 𝓤 (never 𝓤)
    (sem 𝓛 (ghosts.dealloc_token a (bare (layout thing)) null_ptr))) (λ b o e.
    let w : Val = both (vptr b o) h in let typed = loose_good thing Z heap_laws.the_row_laws ghosts b o h fits in
    let us : z.0.4.0 ≡ w ∷ [] = subst (λ (p : Ptr). z.0.4.0 ≡ both (ptr_val p) h ∷ []) e ws in
    suffices ! (Run (w ∷ [])) (subst (λ (us : List Val). ent 𝓤 (Run (w ∷ [])) (Run us)) (sym (λ i. us i ++ []))
    (id⊢ 𝓤 (Run (w ∷ [])))) $
    enter ! C Λ fn (w ∷ []) Post $ alloc_all ! (λ l. pass_all ! refl (typed, tt) $
    sets ! (of_opd ! (get_in ! (fld ! refl (stop !)) (sub ! 0 refl (whole !)))) refl (tt, tt) $
    sets ! (of_opd ! (get_in ! (fld ! refl (stop !)) (sub ! 1 refl (whole !)))) refl fits $
    sets ! (of_opd ! (get ! refl)) refl (tt, tt) $
    sets ! (agg ! (and_then ! (get ! refl) (and_then ! (get ! refl) (no_more !)))) refl typed $
    let y : (Parts thing Z heap_laws.the_row_laws ghosts).Denot = record { at = block_ptr b o; alloc = a; value = x } in
    loose_in thing Z heap_laws.the_row_laws ghosts ! b o h a x $
    use0 𝓛 (raw (fact 𝓤 (v.value ≡ Some x))) (fact_i 𝓤 (v.value ≡ Some x) (emp 𝓤) is) $ nothing ! $ nothing ! $ fjoin ! $
    returns ! (look_at ! 0 refl) $ free_all ! refl $ keep ! (4 ∷ 0 ∷ 2 ∷ 1 ∷ []) $
    by ! (leaves 𝓛 En hs c z w y (tt, tt) (tt, tt)))))))
