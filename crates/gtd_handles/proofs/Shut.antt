-- The machine values of a `Loose`. Assumes `Logic`.
use Rattle.std.proofs.Common.{◌≡◌, List, [], ◌∷◌, ◌++◌, refl, subst}
use seplogic.Ra.Ura.{Ura}
use mir.Syntax.{impl, tnil, dnil}
use mir.Val.{Val, vstruct, of_list}
use mathlib.Core.Bool.{false≢true}
use types.Logic.{Logic}
use types.Kit.{Item, Goal, Seq, Step, step, ‵, ◌$◌, move, drop, fsplit, fjoin, fpick, fpack, feq_i, feq_l}
use denote.RattleType.{RattleType, Valss}
use denote.Builtin.{RawPtr}
use denote.RawPtr.{ptr_val}
use denote.Steps.{nothing}
use denote.Param.{layout}
use denote.Struct.Struct.{within}
use denote.Struct.Owning.{shape, to}
use Rattle.core.proofs.alloc.Calls.{Al, handle_tells}
use Rattle.core.proofs.cell.Inside.{Good}
use Rattle.std.specs.contracts.alloc.Global as heap
use Rattle.std.proofs.alloc.Global.TheLaws as heap_laws
use Rattle.std.specs.contracts.impls.GlobalAllocator.TheImpl.{ghosts}
use Rattle.std.specs.Prelude.{Option, Some, None, IsSome}
use Rattle.gtd_handles.specs.contracts.handle.Thing.{the_row as thing}
use Rattle.gtd_handles.specs.contracts.loose.Loose as loose
use Rattle.gtd_handles.specs.Owned.{owned}
use Rattle.gtd_handles.proofs.Values.{both}

abbrev pub Z : RattleType
Z = heap.the_row

abbrev pub al : Al
al = record { row = Z; laws = heap_laws.the_row_laws; g = ghosts; d = impl [] tnil dnil; drops = impl [] tnil dnil }

abbrev pub Loose : RattleType
Loose = loose.the_row

pub the_some : {X : Type 0} (o : Option X) → IsSome o → (x : X) × (o ≡ Some x)
the_some (Some x) s = (x, refl)
the_some None s = absurd (false≢true s)

module _ {M : Type 1} {𝓤 : Ura M} {𝓛 : Logic 𝓤} {K : Type 0} {Γ : List (Item 𝓤)} {G : Goal 𝓤 𝓛.H} where
  pub shut_out : K → (d : Loose.Denot) (vs : List Val)
      → ((h : Val) → vs ≡ vstruct (of_list (ptr_val d.at ∷ h ∷ [])) ∷ [] → Good (layout Z) h →
      Seq K 𝓛 (‵ (owned thing d.alloc d.at d.value) ∷ ‵ (Z.own_val d.alloc (h ∷ [])) ∷ Γ) G)
      → Seq K 𝓛 (‵ (Loose.own_val d vs) ∷ Γ) G
  shut_out t d vs k =
      fsplit t $ fpick t (λ vss. fsplit t $ feq_l t (λ ev. fsplit t $ feq_l t (λ ep. fsplit t $
      handle_tells al t d.alloc vss.1.0 (λ h ea fits. move t (1 ∷ []) $ drop t $ move t (1 ∷ []) $ k h
      (subst (λ (ws : List Val). vs ≡ vstruct (of_list (ptr_val d.at ∷ (ws ++ []))) ∷ []) ea
      (subst (λ (ps : List Val). vs ≡ vstruct (of_list (ps ++ (vss.1.0 ++ []))) ∷ []) ep ev)) fits))))

  pub shut_in : K → (d : Loose.Denot) (h : Val)
      → Step K 𝓛 (‵ (Loose.own_val d (both (ptr_val d.at) h ∷ [])) ∷ Γ) G (‵ (owned thing d.alloc d.at d.value) ∷ ‵
      (Z.own_val d.alloc (h ∷ [])) ∷ Γ) G
  shut_in t d h = step (λ s. let v : Val = both (ptr_val d.at) h in
      nothing t $ move t (2 ∷ 0 ∷ []) $ fjoin t $ feq_i t (List Val) (ptr_val d.at ∷ []) (ptr_val d.at ∷ []) refl $ fjoin t $
      feq_i t (List Val) (v ∷ []) (v ∷ []) refl $ fjoin t $
      fpack t (Valss (RawPtr ∷ Z ∷ [])) (within (shape loose.the_type) (to loose.the_type d) (v ∷ []))
      (ptr_val d.at ∷ [], (h ∷ [], tt)) $ fjoin t $ s)
