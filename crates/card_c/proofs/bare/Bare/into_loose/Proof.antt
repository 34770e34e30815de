-- `into_loose` makes the pointer to a box's again.
use Rattle.std.proofs.Common.{◌≡◌, List, [], ◌∷◌, ◌++◌, true, refl, sym, ap, ◌∙◌, subst}
use Rattle.std.specs.Prelude.{is_some}
use mir.Syntax.{impl, tnil, dnil}
use mir.Raw.{raw as bare_layout}
use mir.Val.{Val, vptr}
use base.Logic.{SProp, ent, emp, id⊢, never, fst∗}
use base.Fml.{ftrue}
use prog.Wp.{WpFn}
use types.Logic.{sem}
use types.Kit.{‵, raw, ◌⊛◌, ◌$◌, ◌∵◌, !, qed, by, move, keep, split, fsplit, fjoin, suffices, use0, rewrite}
use types.Run.{stop, fld, of_opd, no_more, and_then, returns, enter}
use types.ByLocal.{alloc_all, pass_all, free_all, look_at, get, get_in, sets}
use types.Part.{agg, sub, whole}
use contract.Monad.{fact, fact_i}
use contract.Running.{tables}
use denote.Exit.{yes}
use denote.RattleType.{RattleType, owns}
use denote.Signature.{types_at, plain}
use denote.Memory.{lone}
use denote.RawPtr.{Ptr, block_ptr, null_ptr, in_a_block}
use denote.Steps.{nothing, heard}
use denote.Triple.Walked.{Stays, stay_dropped, walk_of, Goes-dropped}
use Rattle.std.specs.declared.option.Option.{Option}
use Rattle.std.specs.declared.option.Option.TheVariants.{None, Some}
use Rattle.core.proofs.alloc.Calls.{Al, handle_tells}
use Rattle.std_alloc.specs.Box.Ownership.{box_owns}
use Rattle.card_c.specs.Owning.{token, held_at}
use Rattle.std.specs.contracts.alloc.Global as heap
use Rattle.std.proofs.alloc.Global.TheLaws as heap_laws
use Rattle.std.specs.contracts.impls.GlobalAllocator.TheImpl.{ghosts}
use Rattle.std.proofs.raw_atomic.Walks.{proved_at, leaves}
use Rattle.card_c.proofs.BareValues.{alone, bare_out}
use Rattle.card_c.proofs.LooseValues.{both, Loose, loose_good, loose_in}
use Rattle.card_c.specs.contracts.held.Held as held
use Rattle.card_c.specs.contracts.bare.Bare as bare
use Rattle.card_c.specs.contracts.bare.Bare.into_loose.{ended, clauses}
use Rattle.card_c.specs.contracts.bare.Bare.into_loose.Key.{name as #self}
use Rattle.card_c.proofs.bare.Bare.into_loose.Statement.{statement}
use Rattle.card_c.proofs.bare.Bare.into_loose.Code as code

abbrev al : Al
al = record { row = heap.the_row; laws = heap_laws.the_row_laws; g = ghosts; d = impl [] tnil dnil; drops = impl [] tnil dnil }

some_of : {A : Type 0} (o : Option A) → is_some o ≡ true → (x : A) × (o ≡ Some x)
some_of None full = absurd cc
some_of (Some x) full = (x, refl)

pub into_loose_spec : {M : Type 1} → statement M
into_loose_spec 𝓤 𝓛 𝓜 𝓡 wired =
    let H = 𝓛.H in let 𝓣 = tables 𝓤 H 𝓜 𝓡 𝓡.env in let c = clauses 𝓛 𝓜.mem 𝓡.returns in let R = held.the_row in let Z = heap.the_row in let LZ = heap_laws.the_row_laws in
    let L : RattleType = Loose R Z LZ ghosts in let B = bare.the_row in let fn = code.function in
    let hs : Stays ended.signature.params ended.kept = (stay_dropped (plain (λ _. B)) yes, (stay_dropped (plain (λ _. Z)) yes, tt)) in
    proved_at 𝓛 ended hs c 𝓜 𝓡 (Goes-dropped 𝓛 0 (plain (λ _. B)) yes (λ κs x f. refl), (Goes-dropped 𝓛 0 (plain (λ _. Z)) yes (λ κs x f. refl), tt)) #self fn (code.unfolded 𝓤 H 𝓜 𝓡 wired) (λ z are.
    let v = z.0.3.0 in let a = z.0.3.1.0 in let Post : Val → SProp 𝓤 = (walk_of 𝓛 ended hs c).post z in let Run : List Val → SProp 𝓤 = λ ws. WpFn 𝓤 H 𝓣.C 𝓣.Λ fn ws Post in
    qed 𝓛 ((‵ ftrue ⊛ ‵ (owns (types_at ended.signature.params tt) z.0.3 z.0.4)) ∷ raw (fact 𝓤 (is_some v.held ≡ true)) ∷ []) ∵
    move ! (1 ∷ []) $ heard ! (is_some v.held ≡ true) (λ full. let some = some_of v.held full in let x = some.0 in
    split ! $ move ! (1 ∷ []) $ fsplit ! $ bare_out ! v z.0.4.0 (λ ws. rewrite ! 0 (λ (k : Option R.Denot). ‵ (held_at R v.at k)) some.1 refl $
    in_a_block ! v.at (λ p. box_owns token R p x) (fst∗ 𝓤 (never 𝓤) (sem 𝓛 (token (bare_layout (lone R.mir)) null_ptr))) (λ b o e. move ! (1 ∷ []) $ fsplit ! $ handle_tells al ! a z.0.4.1.0 (λ h ea fits.
    let p = block_ptr b o in let w : Val = alone p in let typed = loose_good R Z LZ ghosts b o h fits in
    suffices ! (Run (w ∷ h ∷ [])) (subst (λ (us : List Val). ent 𝓤 (Run (w ∷ h ∷ [])) (Run us)) (sym (λ i. (ws ∙ ap (λ (p : Ptr). alone p ∷ []) e) i ++ (ea i ++ []))) (id⊢ 𝓤 (Run (w ∷ h ∷ [])))) $
    enter ! 𝓣.C 𝓣.Λ fn (w ∷ h ∷ []) Post $ alloc_all ! (λ l. pass_all ! refl ((tt, (tt, tt)), (fits, tt)) $
    sets ! (of_opd ! (get_in ! (fld ! refl (stop !)) (sub ! 0 refl (whole !)))) refl (tt, tt) $ sets ! (of_opd ! (get ! refl)) refl (tt, tt) $
    sets ! (agg ! (and_then ! (get ! refl) (and_then ! (get ! refl) (no_more !)))) refl typed $ move ! (2 ∷ 0 ∷ []) $ loose_in R Z LZ ghosts ! b o h a x $
    use0 𝓛 (raw (fact 𝓤 (Some x ≡ v.held))) (fact_i 𝓤 (Some x ≡ v.held) (emp 𝓤) (sym some.1)) $ nothing ! $ nothing ! $ fjoin ! $ nothing ! $ fjoin ! $
    returns ! (look_at ! 0 refl) $ free_all ! refl $ keep ! (3 ∷ 0 ∷ 2 ∷ 1 ∷ []) $ by ! (leaves 𝓛 ended hs c z (both (vptr b o) h) (record { at = p; alloc = a; value = x }) (tt, (tt, tt)) (tt, (tt, tt)))))))))
