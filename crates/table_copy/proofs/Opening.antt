-- DECLARE and OPEN on the source: what is refused there, and which rows are to come.
use Rattle.std.proofs.Common.{◌≡◌, ℕ, Bool, true, false, List, [], length, Option, Some, None, is_some, Result, Ok, Err, if◌then◌else◌, refl, sym, ◌∙◌, ap, subst}
use Rattle.std.specs.Prelude.{option_and_then}
use Rattle.std.specs.Option.{option_map_or}
use Rattle.scql_base.specs.declared.words.Actor.{Actor}
use Rattle.scql_base.specs.declared.words.Actor.TheVariants.{Public}
use Rattle.scql_base.specs.declared.words.StatusWord.{StatusWord}
use Rattle.scql_base.specs.declared.operation.Command.{Command}
use Rattle.scql_base.specs.declared.operation.Operation.TheVariants.{DeclareCursor}
use Rattle.scql_base.specs.Words.{channel_not_supported}
use Rattle.std.proofs.lemmas.Bool.{false≢true}
use Rattle.scql_model.specs.Refusals.{◌>>=◌}
use Rattle.scql_model.specs.Replies.{Reply, said}
use Rattle.scql_model.specs.Machine.{Machine, Session, base, actor, actor_of, session_of}
use Rattle.scql_model.specs.Matching.{Values}
use Rattle.scql_model.specs.ReadingCommands.{declare}
use Rattle.scql_model.specs.ReadingLaws.{IsReadable}
use Rattle.scql_model.specs.Rights.{seen_named}
use Rattle.scql_model.specs.Shown.{shown_on}
use Rattle.scql_model.specs.Step.{Answer}
use Rattle.scql_model.proofs.ReadingIsShown.{IsReadable-valid}
use Rattle.card_link.specs.Link.{HasValidData}
use Rattle.script.specs.declared.statement.Statement.TheVariants.{Select}
use Rattle.script.specs.Commands.{asking, CanBeSent}
use Rattle.planner.specs.declared.closing.Closing.{Closing}
use Rattle.planner.specs.declared.closing.Closing.TheVariants.{Rows, Refused}
use Rattle.planner.specs.declared.stage.Stage.TheVariants.{Declaring}
use Rattle.planner.specs.declared.step.Step.{Step}
use Rattle.planner.specs.declared.step.Step.TheVariants.{Send, Row, ResetCard, Done}
use Rattle.planner.specs.Meaning.{Declared, Meaning, answer_to, declared, ended, meaning, selects_all}
use Rattle.planner.specs.Planned.{Planned, Turn, next_of, started, accepts, refuses}
use Rattle.planner.specs.Selecting.{ShownRows, closing_given, rows_given, select_shown}
use Rattle.planner.specs.Words.{is_refusal}
use Rattle.planner.proofs.Asking.{who, moved_answer, answer-read}
use Rattle.planner.proofs.Selected.{declared_from, declares, in_session-same}
use Rattle.planner.proofs.SelectsShown.{select-reads}
use Rattle.card_asking.specs.Giving.{GivesRows, behind_step}
use Rattle.card_asking.proofs.Meant.{base-valid}
use Rattle.card_asking.proofs.Rows.{gives-first, gives-shown, all-given}
use Rattle.table_copy.specs.Copy.{source_rows}
use Rattle.table_copy.specs.Copying.{StaysAt}
use Rattle.table_copy.specs.Filling.{Piece, IsFetching, GivesAll, OpensSo, fetched_by, goes_on_by, whether}
use Rattle.table_copy.specs.Leaving.{Advances}
use Rattle.table_copy.specs.declared.copy_end.CopyEnd.TheVariants.{SourceMute}
use Rattle.table_copy.proofs.Ending.{unless-source_mute}

-- A plan that is to close with rows isn't refused.
pub rows-go_on : {L : Type 0} (is_at : L → Machine → Type 0) (s last : Machine) (count : ℕ) (rows : List Values) (p : Planned) (step : Step) (now : L) → GivesRows is_at s (Rows count) last rows p step now → goes_on_by step ≡ Ok tt
rows-go_on is_at s last count rows p (Send c) now gives = refl
rows-go_on is_at s last count rows p (Row c) now gives = refl
rows-go_on is_at s last count rows p ResetCard now gives = refl
rows-go_on is_at s last count rows p (Done closed) now gives = ap (λ (closing : Closing). whether (fetched_by closing)) (all-given is_at s (Rows count) last rows p closed now gives).closes

-- a plan that only reads leaves the source as it was
pub gives-stays : {L : Type 0} (is_at : L → Machine → Type 0) (s last : Machine) (closing : Closing) (rows : List Values) (p : Planned) (step : Step) (now : L) → GivesRows is_at s closing last rows p step now → StaysAt is_at s now
gives-stays is_at s last closing rows p step now gives = record { machine = gives.machine; at = gives.at; like = gives.like }

module _ (s : Machine) (object : List ℕ) (can : CanBeSent 0 (Select object [] [])) (over : HasValidData s) where
  abbrev asked : Command
  asked = asking 0 (DeclareCursor object [] [])

  -- nothing was asked yet, and DECLARE was
  abbrev pub first : Planned
  first = started (Select object [] []) 0 false

  abbrev declaring : Planned
  declaring = record first { stage = Declaring }

  -- DECLARE's refusal is what the source doesn't show
  record IsRefused (word : StatusWord) : Type 0 where
    reply : (answer_to s asked).reply ≡ said word
    refusal : is_refusal word ≡ true

  refused-open : (x : Session) → session_of s 0 ≡ Some x → (word : StatusWord) → select_shown (shown_on s 0) object [] [] ≡ Err word → IsRefused word
  unfolding meaning declared
  refused-open x there word none = by-declared (from (who s 0 x)) refl
    where
      readable : IsReadable (base s 0)
      readable = IsReadable-valid (base s 0) (base-valid s 0 over)

      from : Actor → Result Declared StatusWord
      from a = declared_from (base s 0) a x.reading object [] [] readable (seen_named (base s 0) a object)

      acts : actor s 0 ≡ who s 0 x
      acts = ap (λ (session : Option Session). option_map_or (actor_of (base s 0)) (option_and_then (λ (x : Session). x.user) session) Public) there

      means : meaning s 0 (Select object [] []) ≡ selects_all s 0 (from (who s 0 x))
      means = ap (λ (session : Option Session). if is_some session then selects_all s 0 (from (actor s 0)) else ended (Refused channel_not_supported) s 0) there ∙ ap (λ (a : Actor). selects_all s 0 (from a)) acts

      closes : (selects_all s 0 (from (who s 0 x))).closing ≡ Refused word
      closes =
          ap (λ (x : Meaning). x.closing) (sym means)
          ∙ ((select-reads s 0 object [] [] (ap (λ (session : Option Session). is_some session) there) readable).closing ∙ ap closing_given none)

      by-declared : (d : Result Declared StatusWord) → from (who s 0 x) ≡ d → IsRefused word
      by-declared (Ok d) is = absurd (let no : Rows (length d.rows) ≡ Refused word = rw is at closes in cc)
      by-declared (Err other) is =
          let words : Refused other ≡ Refused word = rw is at closes in
          let d = declares (base s 0) (who s 0 x) x.reading object [] [] readable in
          let alike : other ≡ word = cc in
          subst IsRefused alike (record {
            reply =
                ap (λ (a : Answer). a.reply)
                (ap (λ (n : Machine). answer_to n asked) (sym (in_session-same s 0 x there)) ∙ (answer-read s asked x x (declare object [] []) can.commands.0 refl there ∙ ap (moved_answer s 0 x) (rw is at d.moves)));
            refusal = rw is at d.is;
          })

  refused-so : (word : StatusWord) → source_rows s object ≡ Err word → IsRefused word
  unfolding source_rows
  refused-so word none = go (session_of s 0) refl
    where
      shows : (given : Result ShownRows StatusWord) → (given >>= λ given. Ok given.rows) ≡ Err word → given ≡ Err word
      shows (Ok given) is = absurd cc
      shows (Err other) is = let words : Err other ≡ Err word = is in let alike : other ≡ word = cc in ap (λ (w : StatusWord). Err w) alike

      go : (session : Option Session) → session_of s 0 ≡ session → IsRefused word
      go None there = absurd (false≢true (sym (ap (λ (session : Option Session). is_some session) there) ∙ over.basic))
      go (Some x) there = refused-open x there word (shows (select_shown (shown_on s 0) object [] []) none)

  module _ {L : Type 0} (is_at : L → Machine → Type 0) where
    -- at its first step the plan is to give what is shown, or in any case the rows of the SELECT's meaning
    pub fetching-first : (turn : Turn) (now : L) → next_of None first ≡ turn → is_at now s → IsFetching is_at s turn.plan turn.step now
    fetching-first turn now is at =
        subst (λ (turn : Turn). IsFetching is_at s turn.plan turn.step now) is
        (record { closing = _; last = _; rows = _; gives = gives-first is_at s 0 (Select object [] []) false now tt over can at })

    giving-first : (rows : List Values) (now : L) → source_rows s object ≡ Ok rows → is_at now s → GivesAll is_at s (length rows) rows declaring (Send asked) now
    unfolding source_rows
    giving-first rows now is at = shown-rows (select_shown (shown_on s 0) object [] []) (gives-shown is_at s 0 object [] [] false now over.basic over can at) is
      where
        shown-rows : (given : Result ShownRows StatusWord) → GivesRows is_at s (closing_given given) (meaning s 0 (Select object [] [])).machine (rows_given given) declaring (Send asked) now
            → (given >>= λ given. Ok given.rows) ≡ Ok rows → GivesAll is_at s (length rows) rows declaring (Send asked) now
        shown-rows (Err word) gives is = absurd cc
        shown-rows (Ok given) gives is =
            let whole : Ok given.rows ≡ Ok rows = is in
            let same : given.rows ≡ rows = cc in
            subst (λ (rows : List Values). GivesAll is_at s (length rows) rows declaring (Send asked) now) same (record { last = _; gives = gives })

    -- DECLARE: it is refused where nothing is shown, and else OPEN comes next
    module _ (before : Reply) (old : L) (r : Piece (Unit {0})) (q : Planned) (next : Step) (reply : Reply) (now : L) (at : is_at old s) (a : Advances is_at declaring (Send asked) before old r q next reply now) where
      refused-first : (word : StatusWord) → source_rows s object ≡ Err word → (r ≡ Err SourceMute → ⊥) → OpensSo is_at s (Err word) q next r now
      refused-first word none heard =
          let refused = refused-so word none in
          let fetching = fetching-first (next_of None first) old refl at in
          let turned : next_of (Some (said word)) declaring ≡ record { plan = q; step = next } = ap (λ (reply : Reply). next_of (Some reply) declaring) (sym (a.heard s at heard ∙ refused.reply)) ∙ a.turns heard in
          let ended : next ≡ Done (Refused word) =
          sym (ap (λ (turn : Turn). turn.step) turned) ∙ ap (λ refusal. (if refusal then refuses Declaring word declaring else accepts Declaring word [] declaring).step) refused.refusal in
          subst (λ (r : Piece (Unit {0})). OpensSo is_at s (Err word) q next r now) (sym (a.goes_on heard ∙ ap goes_on_by ended))
          (refl, gives-stays is_at s _ _ _ q next now (a.gives s fetching.last fetching.closing fetching.rows fetching.gives heard))

      given-first : (rows : List Values) → source_rows s object ≡ Ok rows → (r ≡ Err SourceMute → ⊥) → OpensSo is_at s (Ok rows) q next r now
      given-first rows is heard =
          let all = giving-first rows old is at in
          let gives = a.gives s all.last (Rows (length rows)) rows all.gives heard in
          subst (λ (r : Piece (Unit {0})). OpensSo is_at s (Ok rows) q next r now) (sym (a.goes_on heard ∙ rows-go_on is_at s all.last (length rows) rows q next now gives))
          (rows, refl, record { last = all.last; gives = gives })

      opens-first : OpensSo is_at s (source_rows s object) q next r now
      opens-first = unless-source_mute (λ (r : Piece (Unit {0})). OpensSo is_at s (source_rows s object) q next r now) r tt (λ heard. go (source_rows s object) refl heard)
        where
          go : (given : Result (List Values) StatusWord) → source_rows s object ≡ given → (r ≡ Err SourceMute → ⊥) → OpensSo is_at s given q next r now
          go (Err word) is heard = refused-first word is heard
          go (Ok rows) is heard = given-first rows is heard

      -- where it was done
      opened-next : r ≡ Ok tt → (rows : List Values) → behind_step next rows ≡ rows
      opened-next is rows = go (is_refusal reply.word) refl
        where
          heard : r ≡ Err SourceMute → ⊥
          heard mute = let no : Ok tt ≡ Err SourceMute = sym is ∙ mute in cc

          turned : (refusal : Bool) → is_refusal reply.word ≡ refusal → (if refusal then refuses Declaring reply.word declaring else accepts Declaring reply.word reply.body declaring).step ≡ next
          turned refusal refuses_so =
              ap (λ refusal. (if refusal then refuses Declaring reply.word declaring else accepts Declaring reply.word reply.body declaring).step) (sym refuses_so)
              ∙ ap (λ (turn : Turn). turn.step) (a.turns heard)

          go : (refusal : Bool) → is_refusal reply.word ≡ refusal → behind_step next rows ≡ rows
          go true refusal = ap (λ (step : Step). behind_step step rows) (sym (turned true refusal))
          go false refusal = ap (λ (step : Step). behind_step step rows) (sym (turned false refusal))

    -- so by whichever names the first step goes
    at-first : (turn : Turn) → next_of None first ≡ turn → (before : Reply) (old : L) (r : Piece (Unit {0})) (q : Planned) (next : Step) (reply : Reply) (now : L) → Advances is_at turn.plan turn.step before old r q next reply now
        → Advances is_at declaring (Send asked) before old r q next reply now
    at-first turn is before old r q next reply now a = subst (λ (turn : Turn). Advances is_at turn.plan turn.step before old r q next reply now) (sym is) a

    pub opens-one : (turn : Turn) → next_of None first ≡ turn → (before : Reply) (old : L) (r : Piece (Unit {0})) (q : Planned) (next : Step) (reply : Reply) (now : L) → is_at old s → Advances is_at turn.plan turn.step before old r q next reply now
        → OpensSo is_at s (source_rows s object) q next r now
    opens-one turn is before old r q next reply now at a = opens-first before old r q next reply now at (at-first turn is before old r q next reply now a)

    -- OPEN behind it
    pub opens-both : (turn : Turn) → next_of None first ≡ turn → (before : Reply) (old : L) (r : Piece (Unit {0})) (q : Planned) (next : Step) (reply : Reply) (mid : L) → is_at old s → Advances is_at turn.plan turn.step before old r q next reply mid
        → r ≡ Ok tt → (r₂ : Piece (Unit {0})) (q₂ : Planned) (next₂ : Step) (reply₂ : Reply) (now : L) → Advances is_at q next reply mid r₂ q₂ next₂ reply₂ now → OpensSo is_at s (source_rows s object) q₂ next₂ r₂ now
    opens-both turn is before old r q next reply mid at a done r₂ q₂ next₂ reply₂ now b =
        let one = at-first turn is before old r q next reply mid a in
        let opened : OpensSo is_at s (source_rows s object) q next (Ok tt) mid = subst (λ (r : Piece (Unit {0})). OpensSo is_at s (source_rows s object) q next r mid) done (opens-first before old r q next reply mid at one) in
        let rows : List Values = opened.0 in
        let all = opened.2 in
        unless-source_mute (λ (r : Piece (Unit {0})). OpensSo is_at s (source_rows s object) q₂ next₂ r now) r₂ tt (λ heard.
        let gives : GivesRows is_at s (Rows (length rows)) all.last rows q₂ next₂ now =
        subst (λ (left : List Values). GivesRows is_at s (Rows (length rows)) all.last left q₂ next₂ now) (opened-next before old r q next reply mid at one done rows) (b.gives s all.last (Rows (length rows)) rows all.gives heard) in
        subst (λ (r : Piece (Unit {0})). OpensSo is_at s (source_rows s object) q₂ next₂ r now) (sym (b.goes_on heard ∙ rows-go_on is_at s all.last (length rows) rows q₂ next₂ now gives))
        (rows, opened.1, record { last = all.last; gives = gives }))
