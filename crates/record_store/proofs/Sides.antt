-- The chains of both sides of a store in memory, as slots are emptied and filled, and as a transaction ends.
use Rattle.std.proofs.Common.{◌≡◌, ◌≢◌, ◌⊎◌, inl, inr, ℕ, zero, suc, ◌+◌, ◌*◌, ◌<◌, ◌≤◌, ◌==◌, ◌||◌, if◌then◌else◌, Bool, true, false, List, [], ◌∷◌, ◌++◌, length, set, get_or, slice_index, slice_set, sym, refl, ap, ◌∙◌, arith, subst, true≢false, length-append, eqb-true, eq-eqb}
use Rattle.std.specs.List.{AllByRecursion}
use Rattle.std.proofs.lemmas.Bool.{false_from_ne_true, or_cases, or_left, or_right}
use Rattle.std.proofs.lemmas.List.{length-set, get_or-set_same, get_or-set_other}
use Rattle.eeprom.specs.StoreOf.{longest_chain, is_distinct}
use Rattle.cell_store.specs.Cells.{Cells, link_in, StayLinked}
use Rattle.cell_store.specs.Chains.{AreLinked, AreFree, AreNotAmong, is_among, with_marked}
use Rattle.cell_store.specs.Claims.{TakesChain}
use Rattle.cell_store.specs.Marks.{StaysMarked, is_marked, marked}
use Rattle.cell_store.proofs.Among.{among-append, distinct-parts, distinct-join}
use Rattle.cell_store.proofs.Linking.{linked-same, linked-one, linked-inside}
use Rattle.cell_store.proofs.Marking.{marked-with, length-with_marked}
use Rattle.record_store.specs.Held.{Held, firsts}
use Rattle.record_store.specs.Put.{emptied}
use Rattle.record_store.specs.Slots.{AreUsedChains, AreReplaced}
use Rattle.record_store.specs.Sound.{AreChains, AreBeside, HasChains, KeepsSides, IsSound, cells_in}
use Rattle.record_store.specs.Tags.{Tags, both_sides}
use Rattle.record_store.specs.declared.side.Side.TheVariants.{Working}

-- a record was put, whose chain begins at this cell, and these first octets and tags are kept
abbrev pub put_into : Held → ℕ → ℕ → List Bool → List ℕ → List ℕ → Tags → Held
put_into held slot first used links octets tags = record held { chains = record held.chains { used = used; links = links }; working = slice_set held.working slot first; first_octets = octets; tags = tags }

-- tests that are each true where the other is
same-test : (a b : Bool) → (a ≡ true → b ≡ true) → (b ≡ true → a ≡ true) → a ≡ b
same-test true b there back = sym (there refl)
same-test false true there back = back refl
same-test false false there back = refl

pub same-or-other : (a b : ℕ) → (a ≡ b) ⊎ (a ≢ b)
same-or-other a b = elim (a == b) as (λ t. (a == b) ≡ t → (a ≡ b) ⊎ (a ≢ b)) [
  | true ↦ λ e. inl (eqb-true a b e)
  | false ↦ λ e. inr (λ same. true≢false (sym (eq-eqb a b same) ∙ e))
] refl

pub inside-or-past : (a b : ℕ) → (a < b) ⊎ (b ≤ a)
inside-or-past zero zero = inr (omega arith)
inside-or-past zero (suc b) = inl (omega arith)
inside-or-past (suc a) zero = inr (omega arith)
inside-or-past (suc a) (suc b) = elim (inside-or-past a b) [
  | inl inside ↦ inl (omega (arith, inside))
  | inr past ↦ inr (omega (arith, past))
]

-- a cell of chains is in one of them
pub at-chain : (cell : ℕ) (chains : List (List ℕ)) → is_among cell (cells_in chains) ≡ true → (slot : ℕ) × (slot < length chains) × (is_among cell (get_or chains slot []) ≡ true)
at-chain cell [] h = absurd (true≢false (sym h))
at-chain cell (chain ∷ chains) h = elim (or_cases (is_among cell chain) (is_among cell (cells_in chains)) (sym (among-append cell chain (cells_in chains)) ∙ h)) [
  | inl here ↦ (0, omega arith, here)
  | inr later ↦ (let from = at-chain cell chains later in (suc from.0, omega (arith, from.1), from.2))
]

pub in-chains : (cell : ℕ) (chains : List (List ℕ)) (slot : ℕ) → is_among cell (get_or chains slot []) ≡ true → is_among cell (cells_in chains) ≡ true
in-chains cell [] slot h = absurd (true≢false (sym h))
in-chains cell (chain ∷ chains) zero h = among-append cell chain (cells_in chains) ∙ or_left (is_among cell chain) (is_among cell (cells_in chains)) h
in-chains cell (chain ∷ chains) (suc slot) h = among-append cell chain (cells_in chains) ∙ or_right (is_among cell chain) (is_among cell (cells_in chains)) (in-chains cell chains slot h)

not-among-at : (cell : ℕ) (xs ys : List ℕ) → AreNotAmong xs ys → is_among cell xs ≡ true → is_among cell ys ≡ false
not-among-at cell [] ys none h = absurd (true≢false (sym h))
not-among-at cell (x ∷ xs) ys none h = elim (or_cases (cell == x) (is_among cell xs) h) [
  | inl here ↦ (let same : cell ≡ x = eqb-true cell x here in rw same none.0)
  | inr later ↦ not-among-at cell xs ys none.1 later
]

-- and in no other
pub one-slot : (chains : List (List ℕ)) (cell a b : ℕ) → is_distinct (cells_in chains) ≡ true → is_among cell (get_or chains a []) ≡ true → is_among cell (get_or chains b []) ≡ true → a ≡ b
one-slot [] cell a b distinct first second = absurd (true≢false (sym first))
one-slot (chain ∷ chains) cell zero zero distinct first second = refl
one-slot (chain ∷ chains) cell zero (suc b) distinct first second =
    let parts = distinct-parts chain (cells_in chains) distinct in
    absurd (true≢false (sym (in-chains cell chains b second) ∙ not-among-at cell chain (cells_in chains) parts.2 first))
one-slot (chain ∷ chains) cell (suc a) zero distinct first second =
    let parts = distinct-parts chain (cells_in chains) distinct in
    absurd (true≢false (sym (in-chains cell chains a first) ∙ not-among-at cell chain (cells_in chains) parts.2 second))
one-slot (chain ∷ chains) cell (suc a) (suc b) distinct first second =
    ap suc (one-slot chains cell a b (distinct-parts chain (cells_in chains) distinct).1 first second)

-- what holds of each cell among others
pub all-among : (P : ℕ → Type 0) (cells : List ℕ) → ((cell : ℕ) → is_among cell cells ≡ true → P cell) → AllByRecursion P cells
all-among P [] each = tt
all-among P (cell ∷ cells) each = (each cell (or_left (cell == cell) (is_among cell cells) (eq-eqb cell cell refl)), all-among P cells (λ x h. each x (or_right (x == cell) (is_among x cells) h)))

pub among-all : (P : ℕ → Type 0) (cells : List ℕ) → AllByRecursion P cells → (cell : ℕ) → is_among cell cells ≡ true → P cell
among-all P [] all cell here = absurd (true≢false (sym here))
among-all P (x ∷ cells) all cell here = elim (or_cases (cell == x) (is_among cell cells) here) [
  | inl same ↦ subst P (sym (eqb-true cell x same)) all.0
  | inr later ↦ among-all P cells all.1 cell later
]

pub not-among-all : (cells others : List ℕ) → ((cell : ℕ) → is_among cell cells ≡ true → is_among cell others ≡ false) → AreNotAmong cells others
not-among-all cells others each = all-among (λ cell. is_among cell others ≡ false) cells each

-- chains and the cells that they begin at
pub length-chains : (links firsts : List ℕ) (chains : List (List ℕ)) → AreChains links firsts chains → length firsts ≡ length chains
length-chains links [] [] are = refl
length-chains links [] (chain ∷ chains) are = absurd are
length-chains links (first ∷ firsts) [] are = absurd are
length-chains links (first ∷ firsts) (chain ∷ chains) are = ap suc (length-chains links firsts chains are.2)

pub chain-at : (links firsts : List ℕ) (chains : List (List ℕ)) (slot : ℕ) → AreChains links firsts chains → slot < length firsts → AreLinked (link_in links) (length links) (slice_index firsts slot) (get_or chains slot []) × (length (get_or chains slot []) ≤ longest_chain)
chain-at links [] chains slot are inside = absurd (omega arith)
chain-at links (first ∷ firsts) [] slot are inside = absurd are
chain-at links (first ∷ firsts) (chain ∷ chains) zero are inside = (are.0, are.1)
chain-at links (first ∷ firsts) (chain ∷ chains) (suc slot) are inside = chain-at links firsts chains slot are.2 (omega arith)

pub chains-set : (links firsts : List ℕ) (chains : List (List ℕ)) (slot first : ℕ) (chain : List ℕ) → AreLinked (link_in links) (length links) first chain → length chain ≤ longest_chain → AreChains links firsts chains → AreChains links (set firsts slot first) (set chains slot chain)
chains-set links [] [] slot first chain linked short are = are
chains-set links [] (old ∷ chains) slot first chain linked short are = absurd are
chains-set links (x ∷ firsts) [] slot first chain linked short are = absurd are
chains-set links (x ∷ firsts) (old ∷ chains) zero first chain linked short are = (linked, short, are.2)
chains-set links (x ∷ firsts) (old ∷ chains) (suc slot) first chain linked short are = (are.0, are.1, chains-set links firsts chains slot first chain linked short are.2)

-- links of other cells may change
agree-stay : (used : List Bool) (old new cells : List ℕ) → StayLinked used old new → AllByRecursion (λ cell. is_marked used cell ≡ true) cells → AllByRecursion (λ cell. slice_index new cell ≡ slice_index old cell) cells
agree-stay used old new [] stay are = tt
agree-stay used old new (cell ∷ cells) stay are = (stay cell are.0, agree-stay used old new cells stay are.1)

all-front : (P : ℕ → Type 0) (xs ys : List ℕ) → AllByRecursion P (xs ++ ys) → AllByRecursion P xs × AllByRecursion P ys
all-front P [] ys all = (tt, all)
all-front P (x ∷ xs) ys all = (let rest = all-front P xs ys all.1 in ((all.0, rest.0), rest.1))

pub chains-stay : (used : List Bool) (old new firsts : List ℕ) (chains : List (List ℕ)) → length new ≡ length old → StayLinked used old new → AllByRecursion (λ cell. is_marked used cell ≡ true) (cells_in chains) → AreChains old firsts chains → AreChains new firsts chains
chains-stay used old new [] [] size stay marked are = are
chains-stay used old new [] (chain ∷ chains) size stay marked are = absurd are
chains-stay used old new (first ∷ firsts) [] size stay marked are = absurd are
chains-stay used old new (first ∷ firsts) (chain ∷ chains) size stay marked are =
    let parts = all-front (λ cell. is_marked used cell ≡ true) chain (cells_in chains) marked in (
      subst (λ (k : ℕ). AreLinked (link_in new) k first chain) (sym size) (linked-same (link_in old) (link_in new) (length old) first chain (agree-stay used old new chain stay parts.0) are.0),
      are.1,
      chains-stay used old new firsts chains size stay parts.1 are.2,
    )

-- one chain in place of another
pub length-put : (chains : List (List ℕ)) (slot : ℕ) (chain : List ℕ) → slot < length chains → length (cells_in (set chains slot chain)) + length (get_or chains slot []) ≡ length (cells_in chains) + length chain
length-put [] slot chain inside = absurd (omega arith)
length-put (old ∷ chains) zero chain inside = omega (arith, length-append old (cells_in chains), length-append chain (cells_in chains))
length-put (old ∷ chains) (suc slot) chain inside =
    omega (arith, length-put chains slot chain (omega arith), length-append old (cells_in chains), length-append old (cells_in (set chains slot chain)))

-- what is among the cells then
pub among-set : (cell : ℕ) (chains : List (List ℕ)) (slot : ℕ) (chain : List ℕ) → is_among cell (cells_in (set chains slot chain)) ≡ true → (is_among cell chain ≡ true) ⊎ ((at : ℕ) × (at ≢ slot) × (is_among cell (get_or chains at []) ≡ true))
among-set cell chains slot chain h =
    let from = at-chain cell (set chains slot chain) h in
    elim (same-or-other from.0 slot) [
      | inl same ↦ inl (let here : is_among cell (get_or (set chains slot chain) slot []) ≡ true = rw same at from.2 in
          let inside : slot < length chains = omega (arith, from.1, same, length-set chains slot chain) in
          rw (get_or-set_same chains slot chain [] inside) at here)
      | inr other ↦ inr (from.0, other, sym (ap (is_among cell) (get_or-set_other chains slot from.0 chain [] other)) ∙ from.2)
    ]

pub set-among : (cell : ℕ) (chains : List (List ℕ)) (slot : ℕ) (chain : List ℕ) (at : ℕ) → at ≢ slot → is_among cell (get_or chains at []) ≡ true → is_among cell (cells_in (set chains slot chain)) ≡ true
set-among cell chains slot chain at other h = in-chains cell (set chains slot chain) at (ap (is_among cell) (get_or-set_other chains slot at chain [] other) ∙ h)

set-among-here : (cell : ℕ) (chains : List (List ℕ)) (slot : ℕ) (chain : List ℕ) → slot < length chains → is_among cell chain ≡ true → is_among cell (cells_in (set chains slot chain)) ≡ true
set-among-here cell chains slot chain inside h = in-chains cell (set chains slot chain) slot (ap (is_among cell) (get_or-set_same chains slot chain [] inside) ∙ h)

-- no cell is in two chains then, where the new one has none of the others
distinct-put : (chains : List (List ℕ)) (slot : ℕ) (chain : List ℕ) → is_distinct (cells_in chains) ≡ true → is_distinct chain ≡ true → ((cell at : ℕ) → at ≢ slot → is_among cell chain ≡ true → is_among cell (get_or chains at []) ≡ true → ⊥) → is_distinct (cells_in (set chains slot chain)) ≡ true
distinct-put [] slot chain distinct one apart = distinct
distinct-put (old ∷ chains) zero chain distinct one apart =
    let parts = distinct-parts old (cells_in chains) distinct in
    distinct-join chain (cells_in chains) one parts.1
    (not-among-all chain (cells_in chains) (λ cell h. false_from_ne_true (is_among cell (cells_in chains)) (λ there. let from = at-chain cell chains there in apart cell (suc from.0) (λ e. let no : suc from.0 ≡ 0 = e in absurd (omega arith)) h from.2)))
distinct-put (old ∷ chains) (suc slot) chain distinct one apart =
    let parts = distinct-parts old (cells_in chains) distinct in
    let rest = distinct-put chains slot chain parts.1 one (λ cell at other h there. apart cell (suc at) (λ e. other (let f : suc at ≡ suc slot = e in omega arith)) h there) in
    distinct-join old (cells_in (set chains slot chain)) parts.0 rest
    (not-among-all old (cells_in (set chains slot chain)) (λ cell h. false_from_ne_true (is_among cell (cells_in (set chains slot chain))) (λ there.
    elim (among-set cell chains slot chain there) [
      | inl new ↦ apart cell 0 (λ e. let no : 0 ≡ suc slot = e in absurd (omega arith)) new h
      | inr before ↦ true≢false (sym (in-chains cell chains before.0 before.2) ∙ not-among-at cell old (cells_in chains) parts.2 h)
    ])))

-- what is known of a used cell
pub used-cases : (held : Held) (k : KeepsSides held) (cell : ℕ) → is_marked held.chains.used cell ≡ true → (is_among cell (cells_in k.committed) ≡ true) ⊎ (is_among cell (cells_in k.working) ≡ true)
used-cases held k cell is = or_cases (is_among cell (cells_in k.committed)) (is_among cell (cells_in k.working)) (sym (k.used cell) ∙ is)

pub committed-used : (held : Held) (k : KeepsSides held) (cell : ℕ) → is_among cell (cells_in k.committed) ≡ true → is_marked held.chains.used cell ≡ true
committed-used held k cell is = k.used cell ∙ or_left (is_among cell (cells_in k.committed)) (is_among cell (cells_in k.working)) is

pub working-used : (held : Held) (k : KeepsSides held) (cell : ℕ) → is_among cell (cells_in k.working) ≡ true → is_marked held.chains.used cell ≡ true
working-used held k cell is = k.used cell ∙ or_right (is_among cell (cells_in k.committed)) (is_among cell (cells_in k.working)) is

pub committed-marked : (held : Held) (k : KeepsSides held) → AllByRecursion (λ cell. is_marked held.chains.used cell ≡ true) (cells_in k.committed)
committed-marked held k = all-among (λ cell. is_marked held.chains.used cell ≡ true) (cells_in k.committed) (committed-used held k)

pub working-marked : (held : Held) (k : KeepsSides held) → AllByRecursion (λ cell. is_marked held.chains.used cell ≡ true) (cells_in k.working)
working-marked held k = all-among (λ cell. is_marked held.chains.used cell ≡ true) (cells_in k.working) (working-used held k)

pub small-links : (held : Held) → IsSound held → length held.chains.links ≤ 65535
small-links held sound = omega (arith, sound.range.links_count, sound.range.many)

pub count-firsts : (held : Held) → IsSound held → length (firsts held Working) ≡ held.chains.cells
count-firsts held sound = elim held.begun as (λ begun. length (if begun then held.working else held.committed) ≡ held.chains.cells) [ true ↦ sound.working_count | false ↦ sound.committed_count ]

-- in a slot that begins at the same cell on both sides there is the same chain
pub same-chain : (held : Held) (sound : IsSound held) (slot : ℕ) → slot < held.chains.cells → slice_index (firsts held Working) slot ≡ slice_index held.committed slot → get_or sound.sides.working slot [] ≡ get_or sound.sides.committed slot []
same-chain held sound slot inside same =
    let w = chain-at held.chains.links (firsts held Working) sound.sides.working slot sound.sides.working_has.are (omega (arith, count-firsts held sound)) in
    let c = chain-at held.chains.links held.committed sound.sides.committed slot sound.sides.committed_has.are (omega (arith, sound.committed_count)) in
    linked-one (link_in held.chains.links) (length held.chains.links) (slice_index held.committed slot) (get_or sound.sides.working slot []) (get_or sound.sides.committed slot []) (small-links held sound)
    (subst (λ (first : ℕ). AreLinked (link_in held.chains.links) (length held.chains.links) first (get_or sound.sides.working slot [])) same w.0) c.0

working-inside : (held : Held) (sound : IsSound held) (slot : ℕ) → slot < length sound.sides.working → slot < held.chains.cells
working-inside held sound slot inside = omega (arith, inside, length-chains held.chains.links (firsts held Working) sound.sides.working sound.sides.working_has.are, count-firsts held sound)

committed-inside : (held : Held) (sound : IsSound held) (slot : ℕ) → slot < length sound.sides.committed → slot < held.chains.cells
committed-inside held sound slot inside = omega (arith, inside, length-chains held.chains.links held.committed sound.sides.committed sound.sides.committed_has.are, sound.committed_count)

-- A slot is emptied: which cells are used no more.
pub record Empties (old : Held) (slot : ℕ) (chain : List ℕ) (used : List Bool) : Type 0 where
  pub less : (cell : ℕ) → is_marked used cell ≡ true → (is_marked old.chains.used cell ≡ true) × (slice_index old.working slot ≢ slice_index old.committed slot → is_among cell chain ≡ false)
  pub rest : (cell : ℕ) → is_marked old.chains.used cell ≡ true → (slice_index old.working slot ≡ slice_index old.committed slot) ⊎ (is_among cell chain ≡ false) → is_marked used cell ≡ true

emptied-used : (held : Held) (sound : IsSound held) (slot : ℕ) (used : List Bool) → held.begun ≡ true → slot < held.chains.cells → Empties held slot (get_or sound.sides.working slot []) used
    → (cell : ℕ) → is_marked used cell ≡ (is_among cell (cells_in sound.sides.committed) || is_among cell (cells_in (set sound.sides.working slot [])))
emptied-used held sound slot used begun inside e cell = same-test (is_marked used cell) (is_among cell (cells_in k.committed) || is_among cell (cells_in (set k.working slot []))) there back
  where
    k : KeepsSides held
    k = sound.sides

    working_is : firsts held Working ≡ held.working
    working_is = rw begun refl

    there : is_marked used cell ≡ true → (is_among cell (cells_in k.committed) || is_among cell (cells_in (set k.working slot []))) ≡ true
    there is =
        let less = e.less cell is in
        elim (used-cases held k cell less.0) [
          | inl committed ↦ or_left (is_among cell (cells_in k.committed)) (is_among cell (cells_in (set k.working slot []))) committed
          | inr working ↦ (let from = at-chain cell k.working working in
              elim (same-or-other from.0 slot) [
                | inr other ↦ or_right (is_among cell (cells_in k.committed)) (is_among cell (cells_in (set k.working slot []))) (set-among cell k.working slot [] from.0 other from.2)
                | inl same ↦ (let here : is_among cell (get_or k.working slot []) ≡ true = rw same at from.2 in
                    elim (same-or-other (slice_index held.working slot) (slice_index held.committed slot)) [
                      | inl alike ↦ or_left (is_among cell (cells_in k.committed)) (is_among cell (cells_in (set k.working slot [])))
                          (in-chains cell k.committed slot (sym (ap (is_among cell) (same-chain held sound slot inside (rw working_is alike))) ∙ here))
                      | inr unlike ↦ absurd (true≢false (sym here ∙ less.1 unlike))
                    ])
              ])
        ]

    back : (is_among cell (cells_in k.committed) || is_among cell (cells_in (set k.working slot []))) ≡ true → is_marked used cell ≡ true
    back h = elim (or_cases (is_among cell (cells_in k.committed)) (is_among cell (cells_in (set k.working slot []))) h) [
      | inl committed ↦ e.rest cell (committed-used held k cell committed) (elim (k.beside slot) [
        | inl alike ↦ inl (rw working_is at alike)
        | inr apart ↦ inr (false_from_ne_true (is_among cell (get_or k.working slot [])) (λ here. true≢false (sym committed ∙ apart cell here)))
      ])
      | inr working ↦ elim (among-set cell k.working slot [] working) [
        | inl none ↦ absurd (true≢false (sym none))
        | inr from ↦ e.rest cell (working-used held k cell (in-chains cell k.working from.0 from.2))
            (inr (false_from_ne_true (is_among cell (get_or k.working slot [])) (λ here. from.1 (one-slot k.working cell from.0 slot k.working_has.distinct from.2 here))))
      ]
    ]

-- the chains are the same, whichever cells are used
with-used : (store : Cells) (used : List Bool) {firsts : List ℕ} {chains : List (List ℕ)} → HasChains store firsts chains → HasChains (record store { used = used }) firsts chains
with-used store used has = record { are = has.are; distinct = has.distinct; few = has.few }

few-put : (n : ℕ) (chains : List (List ℕ)) (slot : ℕ) → slot < length chains → length (cells_in chains) ≤ n → length (cells_in (set chains slot [])) ≤ n
few-put n chains slot inside few = omega (arith, length-put chains slot [] inside, few)

pub sound-emptied : (held : Held) (slot : ℕ) (used : List Bool) (sound : IsSound held) → held.begun ≡ true → slot < held.chains.cells → length used ≡ length held.chains.used → Empties held slot (get_or sound.sides.working slot []) used → IsSound (emptied held slot used)
sound-emptied held slot used sound begun inside size e = record {
  range = record { few = sound.range.few; many = sound.range.many; used_count = size ∙ sound.range.used_count; links_count = sound.range.links_count };
  rows = sound.rows;
  committed_count = sound.committed_count;
  working_count = length-set held.working slot 65535 ∙ sound.working_count;
  octets_count = sound.octets_count;
  sides = record {
    committed = k.committed;
    working = set k.working slot [];
    committed_has = with-used held.chains used k.committed_has;
    working_has = subst (λ (firsts : List ℕ). HasChains (record held.chains { used = used }) firsts (set k.working slot [])) (sym firsts_are) (record {
      are = chains-set held.chains.links held.working k.working slot 65535 [] refl (omega arith) (subst (λ (firsts : List ℕ). AreChains held.chains.links firsts k.working) working_is k.working_has.are);
      distinct = distinct-put k.working slot [] k.working_has.distinct refl (λ cell at other none there. true≢false (sym none));
      few = few-put held.chains.cells k.working slot there k.working_has.few;
    });
    beside = subst (λ (firsts : List ℕ). AreBeside held.committed firsts (set k.working slot []) (cells_in k.committed)) (sym firsts_are) beside;
    used = emptied-used held sound slot used begun inside e;
  };
}
  where
    k : KeepsSides held
    k = sound.sides

    working_is : firsts held Working ≡ held.working
    working_is = rw begun refl

    firsts_are : firsts (emptied held slot used) Working ≡ set held.working slot 65535
    firsts_are = rw begun refl

    there : slot < length k.working
    there = omega (arith, inside, length-chains held.chains.links (firsts held Working) k.working k.working_has.are, count-firsts held sound)

    beside : AreBeside held.committed (set held.working slot 65535) (set k.working slot []) (cells_in k.committed)
    beside at = elim (same-or-other at slot) [
      | inl same ↦ inr (λ cell h. absurd (true≢false (sym h ∙ ap (is_among cell) (ap (λ (at : ℕ). get_or (set k.working slot []) at []) same ∙ get_or-set_same k.working slot [] [] there))))
      | inr other ↦ elim (k.beside at) [
        | inl alike ↦ inl (get_or-set_other held.working slot at 65535 0 other ∙ (ap (λ (firsts : List ℕ). slice_index firsts at) (sym working_is) ∙ alike))
        | inr apart ↦ inr (λ cell h. apart cell (sym (ap (is_among cell) (get_or-set_other k.working slot at [] [] other)) ∙ h))
      ]
    ]

-- A chain of free cells is put into a slot that is empty.
pub record PutIn (old : Held) (marks : List Bool) (links : List ℕ) (first count : ℕ) : Type 0 where
  pub chain : List ℕ
  pub linked : AreLinked (link_in links) (length links) first chain
  pub free : AreFree old.chains.used chain
  pub count_is : length chain ≡ count
  pub short : count ≤ longest_chain
  pub used : marks ≡ with_marked old.chains.used chain
  pub stay : StayLinked old.chains.used old.chains.links links
  pub size : length links ≡ length old.chains.links

pub put_in-takes : (old : Held) (new : Cells) (first count : ℕ) → TakesChain old.chains new first count → PutIn old new.used new.links first count
put_in-takes old new first count t = record { chain = t.chain; linked = t.linked; free = t.free; count_is = t.count_is; short = t.short; used = t.used; stay = t.stay; size = t.links_count }

empty-chain : (link : ℕ → ℕ) (size : ℕ) (chain : List ℕ) → size ≤ 65535 → AreLinked link size 65535 chain → chain ≡ []
empty-chain link size [] few linked = refl
empty-chain link size (x ∷ chain) few linked = absurd (omega (arith, linked.1))

free-cell : (used : List Bool) (chain : List ℕ) (cell : ℕ) → AllByRecursion (λ cell. is_marked used cell ≡ false) chain → is_among cell chain ≡ true → is_marked used cell ≡ false
free-cell used chain cell free here = among-all (λ cell. is_marked used cell ≡ false) chain free cell here

pub sound-put : (held : Held) (slot first count : ℕ) (used : List Bool) (links octets : List ℕ) (tags : Tags) (sound : IsSound held) → length octets ≡ length held.first_octets → held.begun ≡ true → slot < held.chains.cells → slice_index held.working slot ≡ 65535 → PutIn held used links first count
    → length (cells_in sound.sides.working) + count ≤ held.chains.cells → IsSound (put_into held slot first used links octets tags)
sound-put held slot first count used links octets tags sound octets_count begun inside empty p fits = record {
  range = record { few = sound.range.few; many = sound.range.many; used_count = ap (length {A = Bool}) p.used ∙ (length-with_marked held.chains.used p.chain ∙ sound.range.used_count); links_count = p.size ∙ sound.range.links_count };
  rows = sound.rows;
  committed_count = sound.committed_count;
  working_count = length-set held.working slot first ∙ sound.working_count;
  octets_count = octets_count ∙ sound.octets_count;
  sides = record {
    committed = k.committed;
    working = set k.working slot p.chain;
    committed_has = record {
      are = chains-stay held.chains.used held.chains.links links held.committed k.committed p.size p.stay (committed-marked held k) k.committed_has.are;
      distinct = k.committed_has.distinct;
      few = k.committed_has.few;
    };
    working_has = subst (λ (firsts : List ℕ). HasChains (record held.chains { used = used; links = links }) firsts (set k.working slot p.chain)) (sym firsts_are) (record {
      are = chains-set links held.working k.working slot first p.chain p.linked (omega (arith, p.count_is, p.short))
          (chains-stay held.chains.used held.chains.links links held.working k.working p.size p.stay (working-marked held k) (subst (λ (firsts : List ℕ). AreChains held.chains.links firsts k.working) working_is k.working_has.are));
      distinct = distinct-put k.working slot p.chain k.working_has.distinct p.free.distinct (λ cell at other here there.
          true≢false (sym (working-used held k cell (in-chains cell k.working at there)) ∙ free-cell held.chains.used p.chain cell p.free.free here));
      few = omega (arith, length-put k.working slot p.chain there, p.count_is, fits);
    });
    beside = subst (λ (firsts : List ℕ). AreBeside held.committed firsts (set k.working slot p.chain) (cells_in k.committed)) (sym firsts_are) beside;
    used = used_is;
  };
}
  where
    k : KeepsSides held
    k = sound.sides

    working_is : firsts held Working ≡ held.working
    working_is = rw begun refl

    firsts_are : firsts (put_into held slot first used links octets tags) Working ≡ set held.working slot first
    firsts_are = rw begun refl

    there : slot < length k.working
    there = omega (arith, inside, length-chains held.chains.links (firsts held Working) k.working k.working_has.are, count-firsts held sound)

    not-committed : (cell : ℕ) → is_among cell p.chain ≡ true → is_among cell (cells_in k.committed) ≡ false
    not-committed cell here = false_from_ne_true (is_among cell (cells_in k.committed)) (λ committed. true≢false (sym (committed-used held k cell committed) ∙ free-cell held.chains.used p.chain cell p.free.free here))

    beside : AreBeside held.committed (set held.working slot first) (set k.working slot p.chain) (cells_in k.committed)
    beside at = elim (same-or-other at slot) [
      | inl same ↦ inr (λ cell h. not-committed cell (sym (ap (is_among cell) (ap (λ (at : ℕ). get_or (set k.working slot p.chain) at []) same ∙ get_or-set_same k.working slot p.chain [] there)) ∙ h))
      | inr other ↦ elim (k.beside at) [
        | inl alike ↦ inl (get_or-set_other held.working slot at first 0 other ∙ (ap (λ (firsts : List ℕ). slice_index firsts at) (sym working_is) ∙ alike))
        | inr apart ↦ inr (λ cell h. apart cell (sym (ap (is_among cell) (get_or-set_other k.working slot at p.chain [] other)) ∙ h))
      ]
    ]

    was-empty : get_or k.working slot [] ≡ []
    was-empty =
        let at = chain-at held.chains.links held.working k.working slot (subst (λ (firsts : List ℕ). AreChains held.chains.links firsts k.working) working_is k.working_has.are) (omega (arith, inside, sound.working_count)) in
        empty-chain (link_in held.chains.links) (length held.chains.links) (get_or k.working slot []) (small-links held sound) (subst (λ (first : ℕ). AreLinked (link_in held.chains.links) (length held.chains.links) first (get_or k.working slot [])) empty at.0)

    marks : (cell : ℕ) → is_marked used cell ≡ (is_marked held.chains.used cell || is_among cell p.chain)
    marks cell =
        let within = subst (λ (size : ℕ). AllByRecursion (λ cell. cell < size) p.chain) (p.size ∙ sound.range.links_count) (linked-inside (link_in links) (length links) first p.chain p.linked) in
        ap (λ (used : List Bool). is_marked used cell) p.used ∙ marked-with (2 * held.chains.cells) held.chains.used p.chain cell sound.range.used_count within

    used_is : (cell : ℕ) → is_marked used cell ≡ (is_among cell (cells_in k.committed) || is_among cell (cells_in (set k.working slot p.chain)))
    used_is cell = same-test (is_marked used cell) (is_among cell (cells_in k.committed) || is_among cell (cells_in (set k.working slot p.chain)))
        (λ is. elim (or_cases (is_marked held.chains.used cell) (is_among cell p.chain) (sym (marks cell) ∙ is)) [
          | inr here ↦ or_right (is_among cell (cells_in k.committed)) (is_among cell (cells_in (set k.working slot p.chain))) (set-among-here cell k.working slot p.chain there here)
          | inl before ↦ elim (used-cases held k cell before) [
            | inl committed ↦ or_left (is_among cell (cells_in k.committed)) (is_among cell (cells_in (set k.working slot p.chain))) committed
            | inr working ↦ (let from = at-chain cell k.working working in
                let other : from.0 ≢ slot = λ same. true≢false (sym (rw (same, was-empty) at from.2)) in
                or_right (is_among cell (cells_in k.committed)) (is_among cell (cells_in (set k.working slot p.chain))) (set-among cell k.working slot p.chain from.0 other from.2))
          ]
        ])
        (λ h. elim (or_cases (is_among cell (cells_in k.committed)) (is_among cell (cells_in (set k.working slot p.chain))) h) [
          | inl committed ↦ marks cell ∙ or_left (is_marked held.chains.used cell) (is_among cell p.chain) (committed-used held k cell committed)
          | inr working ↦ elim (among-set cell k.working slot p.chain working) [
            | inl here ↦ marks cell ∙ or_right (is_marked held.chains.used cell) (is_among cell p.chain) here
            | inr from ↦ marks cell ∙ or_left (is_marked held.chains.used cell) (is_among cell p.chain) (working-used held k cell (in-chains cell k.working from.0 from.2))
          ]
        ])

-- The transaction has ended, and the chains are freed in whose place others are kept.
used-chains : (held : Held) (cells : List (List ℕ)) (firsts : List ℕ) → HasChains held.chains firsts cells → AllByRecursion (λ cell. is_marked held.chains.used cell ≡ true) (cells_in cells) → AreUsedChains held.chains firsts cells
used-chains held cells firsts has marked = record { are = has.are; distinct = has.distinct; used = marked }

pub record Frees (held : Held) (replaced kept : List ℕ) (used : List Bool) : Type 0 where
  pub freed : (chains : List (List ℕ)) → AreUsedChains held.chains replaced chains → (cell : ℕ) → is_marked used cell ≡ true → AreReplaced replaced kept chains (length replaced) cell → ⊥
  pub others : (chains : List (List ℕ)) → AreUsedChains held.chains replaced chains → (cell : ℕ) → is_marked held.chains.used cell ≡ true → ¬ (AreReplaced replaced kept chains (length replaced) cell) → is_marked used cell ≡ true
  pub fewer : StaysMarked used held.chains.used
  pub count_is : length used ≡ length held.chains.used

twice : (b : Bool) → b ≡ (b || b)
twice true = refl
twice false = refl

-- a transaction has ended, and what was committed stays; these cells are used then
abbrev pub rolled_back : Held → List Bool → Held
rolled_back held used = record held { chains = record held.chains { used = used }; begun = false }

-- it was committed: the working records are now those that are committed, and the gate is closed
abbrev pub after_commit : Held → List Bool → Held
after_commit held used = record held { chains = record held.chains { used = used }; committed = held.working; begun = false; tags = both_sides held.tags.working }

pub sound-committed : (held : Held) (used : List Bool) (sound : IsSound held) → held.begun ≡ true → Frees held held.committed held.working used → IsSound (after_commit held used)
sound-committed held used sound begun f = record {
  range = record { few = sound.range.few; many = sound.range.many; used_count = f.count_is ∙ sound.range.used_count; links_count = sound.range.links_count };
  rows = sound.rows;
  committed_count = sound.working_count;
  working_count = sound.working_count;
  octets_count = sound.octets_count;
  sides = record {
    committed = k.working;
    working = k.working;
    committed_has = with-used held.chains used has;
    working_has = with-used held.chains used has;
    beside = λ slot. inl refl;
    used = λ cell. used_is cell ∙ twice (is_among cell (cells_in k.working));
  };
}
  where
    k : KeepsSides held
    k = sound.sides

    working_is : firsts held Working ≡ held.working
    working_is = rw begun refl

    has : HasChains held.chains held.working k.working
    has = subst (λ (firsts : List ℕ). HasChains held.chains firsts k.working) working_is k.working_has

    are : AreUsedChains held.chains held.committed k.committed
    are = used-chains held k.committed held.committed k.committed_has (committed-marked held k)

    used_is : (cell : ℕ) → is_marked used cell ≡ is_among cell (cells_in k.working)
    used_is cell = same-test (is_marked used cell) (is_among cell (cells_in k.working))
        (λ is. elim (used-cases held k cell (f.fewer cell is)) [
          | inr working ↦ working
          | inl committed ↦ (let from = at-chain cell k.committed committed in
              let inside = committed-inside held sound from.0 from.1 in
              elim (same-or-other (slice_index held.committed from.0) (slice_index held.working from.0)) [
                | inl alike ↦ in-chains cell k.working from.0 (ap (is_among cell) (same-chain held sound from.0 inside (ap (λ (firsts : List ℕ). slice_index firsts from.0) working_is ∙ sym alike)) ∙ from.2)
                | inr unlike ↦ absurd (f.freed k.committed are cell is (from.0, omega (arith, inside, sound.committed_count), unlike, from.2))
              ])
        ])
        (λ working. f.others k.committed are cell (working-used held k cell working) (λ (gone : AreReplaced held.committed held.working k.committed (length held.committed) cell).
        let from = at-chain cell k.working working in
        elim (k.beside from.0) [
          | inr apart ↦ true≢false (sym (in-chains cell k.committed gone.0 gone.3) ∙ apart cell from.2)
          | inl alike ↦ (let there : is_among cell (get_or k.committed from.0 []) ≡ true = sym (ap (is_among cell) (same-chain held sound from.0 (working-inside held sound from.0 from.1) alike)) ∙ from.2 in
              let same : gone.0 ≡ from.0 = one-slot k.committed cell gone.0 from.0 k.committed_has.distinct gone.3 there in
              gone.2 (ap (λ (slot : ℕ). slice_index held.committed slot) same ∙ (sym alike ∙ (ap (λ (firsts : List ℕ). slice_index firsts from.0) working_is ∙ ap (λ (slot : ℕ). slice_index held.working slot) (sym same)))))
        ]))

pub sound-rolled_back : (held : Held) (used : List Bool) (sound : IsSound held) → held.begun ≡ true → Frees held held.working held.committed used → IsSound (rolled_back held used)
sound-rolled_back held used sound begun f = record {
  range = record { few = sound.range.few; many = sound.range.many; used_count = f.count_is ∙ sound.range.used_count; links_count = sound.range.links_count };
  rows = sound.rows;
  committed_count = sound.committed_count;
  working_count = sound.working_count;
  octets_count = sound.octets_count;
  sides = record {
    committed = k.committed;
    working = k.committed;
    committed_has = with-used held.chains used k.committed_has;
    working_has = with-used held.chains used k.committed_has;
    beside = λ slot. inl refl;
    used = λ cell. used_is cell ∙ twice (is_among cell (cells_in k.committed));
  };
}
  where
    k : KeepsSides held
    k = sound.sides

    working_is : firsts held Working ≡ held.working
    working_is = rw begun refl

    are : AreUsedChains held.chains held.working k.working
    are = used-chains held k.working held.working (subst (λ (firsts : List ℕ). HasChains held.chains firsts k.working) working_is k.working_has) (working-marked held k)

    used_is : (cell : ℕ) → is_marked used cell ≡ is_among cell (cells_in k.committed)
    used_is cell = same-test (is_marked used cell) (is_among cell (cells_in k.committed))
        (λ is. elim (used-cases held k cell (f.fewer cell is)) [
          | inl committed ↦ committed
          | inr working ↦ (let from = at-chain cell k.working working in
              let inside = working-inside held sound from.0 from.1 in
              elim (same-or-other (slice_index held.working from.0) (slice_index held.committed from.0)) [
                | inl alike ↦ in-chains cell k.committed from.0 (sym (ap (is_among cell) (same-chain held sound from.0 inside (ap (λ (firsts : List ℕ). slice_index firsts from.0) working_is ∙ alike))) ∙ from.2)
                | inr unlike ↦ absurd (f.freed k.working are cell is (from.0, omega (arith, inside, sound.working_count), unlike, from.2))
              ])
        ])
        (λ committed. f.others k.working are cell (committed-used held k cell committed) (λ (gone : AreReplaced held.working held.committed k.working (length held.working) cell).
        elim (k.beside gone.0) [
          | inr apart ↦ true≢false (sym committed ∙ apart cell gone.3)
          | inl alike ↦ gone.2 (ap (λ (firsts : List ℕ). slice_index firsts gone.0) (sym working_is) ∙ alike)
        ]))
