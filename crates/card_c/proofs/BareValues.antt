-- The machine values of a `Bare`: a pointer alone.
use Rattle.std.proofs.Common.{◌≡◌, List, [], ◌∷◌, ◌++◌, refl, subst}
use seplogic.Ra.Ura.{Ura}
use mir.Val.{Val, vstruct, vcons, vnil, of_list}
use types.Logic.{Logic}
use types.Kit.{Item, Goal, Seq, Step, step, ‵, ◌$◌, drop, fsplit, fjoin, fpick, fpack, feq_i, feq_l}
use denote.RattleType.{Valss}
use denote.Builtin.{RawPtr}
use denote.RawPtr.{Ptr, ptr_val}
use denote.Steps.{nothing}
use denote.Struct.Struct.{within}
use denote.Struct.Owning.{shape}
use Rattle.std.specs.declared.option.Option.{Option}
use Rattle.card_c.specs.Owning.{held_at}
use Rattle.card_c.specs.contracts.held.Held as held
use Rattle.card_c.specs.contracts.bare.Bare as bare

abbrev pub alone : Ptr → Val
alone p = vstruct (vcons (ptr_val p) vnil)

module _ {M : Type 1} {𝓤 : Ura M} {𝓛 : Logic 𝓤} {K : Type 0} {Γ : List (Item 𝓤)} {G : Goal 𝓤 𝓛.H} where
  pub bare_out : K → (d : bare.the_row.Denot) (vs : List Val) → (vs ≡ alone d.at ∷ [] → Seq K 𝓛 (‵ (held_at held.the_row d.at d.held) ∷ Γ) G) → Seq K 𝓛 (‵ (bare.the_row.own_val d vs) ∷ Γ) G
  bare_out t d vs k =
      fsplit t $ fpick t (λ vss. fsplit t $ feq_l t (λ ev. fsplit t $ feq_l t (λ ep. drop t $
      k (subst (λ (ps : List Val). vs ≡ vstruct (of_list (ps ++ [])) ∷ []) ep ev))))

  pub bare_in : K → (p : Ptr) (x : Option held.the_row.Denot) → Step K 𝓛 (‵ (bare.the_row.own_val (record { at = p; held = x }) (alone p ∷ [])) ∷ Γ) G (‵ (held_at held.the_row p x) ∷ Γ) G
  bare_in t p x = step (λ s. nothing t $ feq_i t (List Val) (ptr_val p ∷ []) (ptr_val p ∷ []) refl $ fjoin t $ feq_i t (List Val) (alone p ∷ []) (alone p ∷ []) refl $ fjoin t $
      fpack t (Valss (RawPtr ∷ [])) (within (shape bare.the_type) (p, tt) (alone p ∷ [])) (ptr_val p ∷ [], tt) $ fjoin t $ s)
