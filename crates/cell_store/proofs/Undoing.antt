-- A chain whose writing failed is unmarked again.
use Rattle.std.proofs.Common.{◌≡◌, ℕ, zero, suc, ◌*◌, ◌<◌, ◌≤◌, Bool, true, false, not, List, [], ◌∷◌, length, set, sym, refl, ap, ◌∙◌, arith, subst}
use Rattle.std.specs.List.{AllByRecursion}
use Rattle.std.proofs.lemmas.Bool.{and_parts}
use Rattle.eeprom.specs.StoreOf.{is_distinct, longest_chain}
use Rattle.cell_store.specs.Cells.{link_in}
use Rattle.cell_store.specs.Chains.{AreLinked, AreFree, AreMarked, is_among, with_marked, with_unmarked}
use Rattle.cell_store.specs.Marks.{is_marked}
use Rattle.cell_store.specs.Placed.{IsLaid}
use Rattle.cell_store.proofs.Among.{not-true}
use Rattle.cell_store.proofs.Linking.{linked-inside}
use Rattle.cell_store.proofs.Marking.{marked-with, with_marked-all, with_marked-set}

set-back : (marks : List Bool) (at : ℕ) → is_marked marks at ≡ false → set (set marks at true) at false ≡ marks
set-back [] at free = refl
set-back (mark ∷ marks) zero free = ap (λ (mark : Bool). mark ∷ marks) (sym free)
set-back (mark ∷ marks) (suc at) free = ap (λ (rest : List Bool). mark ∷ rest) (set-back marks at free)

unmarked-again : (size : ℕ) (marks : List Bool) (chain : List ℕ) → length marks ≡ size → AllByRecursion (λ cell. cell < size) chain → AreFree marks chain → with_unmarked (with_marked marks chain) chain ≡ marks
unmarked-again size marks [] count inside f = refl
unmarked-again size marks (cell ∷ chain) count inside f =
    let tests = and_parts (not (is_among cell chain)) (is_distinct chain) f.distinct in
    let apart : is_among cell chain ≡ false = not-true (is_among cell chain) tests.0 in
    let here : is_marked marks cell ≡ false = f.free.0 in
    let free : is_marked (with_marked marks chain) cell ≡ false = marked-with size marks chain cell count inside.1 ∙ rw (here, apart) refl in
    ap (λ (xs : List Bool). with_unmarked (set xs cell false) chain) (with_marked-set marks cell chain)
    ∙ ap (λ (xs : List Bool). with_unmarked xs chain) (set-back (with_marked marks chain) cell free)
    ∙ unmarked-again size marks chain count inside.1 (record { free = f.free.1; distinct = tests.1 })

pub undone : (n : ℕ) (start marks later : List Bool) (piece count first : ℕ) (before links : List ℕ) → length start ≡ 2 * n → length links ≡ 2 * n → count ≤ longest_chain → IsLaid n start marks piece count first before links
    → ((chain : List ℕ) → AreLinked (link_in links) (length links) first chain → AreMarked marks chain → length chain ≤ longest_chain → later ≡ with_unmarked marks chain) → later ≡ start
undone n start marks later piece count first before links start_size links_size short laid unmarked =
    let within = linked-inside (link_in links) (2 * n) first laid.chain laid.linked in
    let linked = subst (λ (size : ℕ). AreLinked (link_in links) size first laid.chain) (sym links_size) laid.linked in
    let are = subst (λ (marks : List Bool). AreMarked marks laid.chain) (sym laid.marks_are) (with_marked-all (2 * n) start laid.chain start_size within) in
    unmarked laid.chain linked are (omega (arith, laid.cells)) ∙ ap (λ (marks : List Bool). with_unmarked marks laid.chain) laid.marks_are ∙ unmarked-again (2 * n) start laid.chain start_size within laid.free
