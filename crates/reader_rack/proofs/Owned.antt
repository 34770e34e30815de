-- A reader's own lines are those of a terminal.
use Rattle.std.proofs.Common.{◌≡◌, ◌⊎◌, ℕ, suc, ◌==◌, arith, Bool, true, false, List, [], ◌∷◌, ◌++◌, map, Option, Some, None, refl, sym, ◌∙◌, ap, subst, inl, inr, if◌then◌else◌, ◌&&◌}
use Rattle.std.specs.Prelude.{is_none}
use Rattle.std.specs.List.{concat}
use Rattle.std.proofs.lemmas.Bool.{eqb-true, eqb-false, eq-eqb}
use Rattle.scql_model.specs.Lines.{line_text, line_step, run_text, taken_line}
use Rattle.planner.specs.StatementLines.{TerminalState, statement_effect, statement_lines}
use Rattle.reader_rack.specs.declared.statement.RackStatement.{RackStatement}
use Rattle.reader_rack.specs.declared.statement.RackStatement.TheVariants.{Select, Eject}
use Rattle.reader_rack.specs.OwnLines.{AreSound, OwnTurn, ejects, is_eject_of, is_for, own_turns, statements_text, with_own}
use Rattle.reader_rack.specs.RackText.{Held, sits, RackState, Turn, asked, ejected, taken, turn_effect, with_reader}
use Rattle.reader_rack.specs.Statements.{rack_statement}

-- what one reader holds while another one changes
kept : (rack : RackState) (number other : ℕ) (held : Held) → (other == number) ≡ false → (with_reader rack other held).reader number ≡ rack.reader number
kept rack number other held e = go (number == other) refl where
  go : (b : Bool) → (number == other) ≡ b → (if b then held else rack.reader number) ≡ rack.reader number
  go true is = absurd (eqb-false other number e (sym (eqb-true number other is)))
  go false is = refl

changed : (rack : RackState) (number : ℕ) (held : Held) → (with_reader rack number held).reader number ≡ held
changed rack number held = ap (λ (b : Bool). if b then held else rack.reader number) (eq-eqb number number refl)

-- A turn sets the reader's link aside, or leaves the reader as it is, or is the reader's own.
pub record Passes (number : ℕ) (rack : RackState) (state : TerminalState) (turn : Turn) : Type 0 where
  pub stays : ejects number turn.line ≡ false
  pub others : is_for number rack turn.line ≡ false
  pub held : (turn_effect rack turn).next.reader number ≡ sits state

pub record IsOwn (number : ℕ) (rack : RackState) (state : TerminalState) (turn : Turn) : Type 0 where
  pub stays : ejects number turn.line ≡ false
  pub own : is_for number rack turn.line ≡ true
  pub text : turn.fails ≡ None → (turn_effect rack turn).text ≡ (statement_effect state turn.line).text
  pub held : turn.fails ≡ None → (turn_effect rack turn).next.reader number ≡ sits (statement_effect state turn.line).next

abbrev pub GoesForReader : ℕ → RackState → TerminalState → Turn → Type 0
GoesForReader number rack state turn = (ejects number turn.line ≡ true) ⊎ Passes number rack state turn ⊎ IsOwn number rack state turn

pub goes : (number : ℕ) (rack : RackState) (state : TerminalState) (turn : Turn) → rack.reader number ≡ sits state → GoesForReader number rack state turn
goes number rack state turn holds = at-line turn.line turn.fails where
  at-eject : (line : List ℕ) (fails : Option ℕ) (m : ℕ) → rack_statement line ≡ Some (Eject m) → (b : Bool) → (m == number) ≡ b → GoesForReader number rack state (record { line = Some line; fails = fails })
  at-eject line fails m is true e = inl (ap (is_eject_of number) is ∙ e)
  at-eject line fails m is false e = inr (inl (record {
    stays = ap (is_eject_of number) is ∙ e;
    others = ap (λ (s : Option RackStatement). is_none s && rack.current == number) is;
    held = ap (λ (s : Option RackStatement). (taken rack s line fails).next.reader number) is ∙ (kept rack number m (ejected (rack.reader m)).next e ∙ holds);
  }))

  at-other : (line : List ℕ) (fails : Option ℕ) → rack_statement line ≡ None → (b : Bool) → (rack.current == number) ≡ b → GoesForReader number rack state (record { line = Some line; fails = fails })
  at-other line fails is true e =
      let here : rack.current ≡ number = eqb-true rack.current number e in
      let at : rack.reader rack.current ≡ sits state = ap rack.reader here ∙ holds in
      inr (inr (record {
        stays = ap (is_eject_of number) is;
        own = ap (λ (s : Option RackStatement). is_none s && rack.current == number) is ∙ e;
        text = λ none. ap (λ (s : Option RackStatement). (taken rack s line fails).text) is
            ∙ (ap (λ (h : Held). (asked h line fails).text) at ∙ ap (λ (f : Option ℕ). (asked (sits state) line f).text) none);
        held = λ none. ap (λ (s : Option RackStatement). (taken rack s line fails).next.reader number) is
            ∙ (ap (λ (n : ℕ). (with_reader rack n (asked (rack.reader rack.current) line fails).next).reader number) here
            ∙ (changed rack number (asked (rack.reader rack.current) line fails).next
            ∙ (ap (λ (h : Held). (asked h line fails).next) at ∙ ap (λ (f : Option ℕ). (asked (sits state) line f).next) none)));
      }))
  at-other line fails is false e = inr (inl (record {
    stays = ap (is_eject_of number) is;
    others = ap (λ (s : Option RackStatement). is_none s && rack.current == number) is ∙ e;
    held = ap (λ (s : Option RackStatement). (taken rack s line fails).next.reader number) is ∙ (kept rack number rack.current (asked (rack.reader rack.current) line fails).next e ∙ holds);
  }))

  at-statement : (line : List ℕ) (fails : Option ℕ) (s : Option RackStatement) → rack_statement line ≡ s → GoesForReader number rack state (record { line = Some line; fails = fails })
  at-statement line fails (Some (Select m)) is = inr (inl (record {
    stays = ap (is_eject_of number) is;
    others = ap (λ (s : Option RackStatement). is_none s && rack.current == number) is;
    held = ap (λ (s : Option RackStatement). (taken rack s line fails).next.reader number) is ∙ holds;
  }))
  at-statement line fails (Some (Eject m)) is = at-eject line fails m is (m == number) refl
  at-statement line fails None is = at-other line fails is (rack.current == number) refl

  at-line : (line : Option (List ℕ)) (fails : Option ℕ) → GoesForReader number rack state (record { line = line; fails = fails })
  at-line None fails = inr (inl (record { stays = refl; others = refl; held = holds }))
  at-line (Some line) fails = at-statement line fails (rack_statement line) refl

-- the texts of some turns are a terminal's
abbrev pub IsTerminals : TerminalState → List OwnTurn → Type 0
IsTerminals state own = concat (map (λ (o : OwnTurn). o.text) own) ≡ statements_text state (map (λ (o : OwnTurn). o.turn.line) own)

with-turn : (number : ℕ) (rack : RackState) (state : TerminalState) (turn : Turn) (turns : List Turn)
    → ((rack' : RackState) (state' : TerminalState) → rack'.reader number ≡ sits state' → AreSound (own_turns number rack' turns) → IsTerminals state' (own_turns number rack' turns))
    → GoesForReader number rack state turn → AreSound (own_turns number rack (turn ∷ turns)) → IsTerminals state (own_turns number rack (turn ∷ turns))
with-turn number rack state turn turns rest (inl ends) sound =
    let own : OwnTurn = record { turn = turn; text = (turn_effect rack turn).text } in
    let same : own_turns number rack (turn ∷ turns) ≡ [] = ap (λ (b : Bool). if b then [] else with_own (is_for number rack turn.line) own (own_turns number (turn_effect rack turn).next turns)) ends in
    subst (IsTerminals state) (sym same) refl
with-turn number rack state turn turns rest (inr (inl passes)) sound =
    let own : OwnTurn = record { turn = turn; text = (turn_effect rack turn).text } in
    let later : List OwnTurn = own_turns number (turn_effect rack turn).next turns in
    let same : own_turns number rack (turn ∷ turns) ≡ later =
    ap (λ (b : Bool). if b then [] else with_own (is_for number rack turn.line) own later) passes.stays ∙ ap (λ (b : Bool). with_own b own later) passes.others in
    subst (IsTerminals state) (sym same) (rest (turn_effect rack turn).next state passes.held (subst AreSound same sound))
with-turn number rack state turn turns rest (inr (inr is_own)) sound =
    let own : OwnTurn = record { turn = turn; text = (turn_effect rack turn).text } in
    let later : List OwnTurn = own_turns number (turn_effect rack turn).next turns in
    let same : own_turns number rack (turn ∷ turns) ≡ own ∷ later =
    ap (λ (b : Bool). if b then [] else with_own (is_for number rack turn.line) own later) is_own.stays ∙ ap (λ (b : Bool). with_own b own later) is_own.own in
    let sound' : AreSound (own ∷ later) = subst AreSound same sound in
    subst (IsTerminals state) (sym same)
    (ap (λ (t : List ℕ). t ++ concat (map (λ (o : OwnTurn). o.text) later)) (is_own.text (sound' 0 own (omega arith)))
    ∙ ap (λ (t : List ℕ). (statement_effect state turn.line).text ++ t) (rest (turn_effect rack turn).next (statement_effect state turn.line).next (is_own.held (sound' 0 own (omega arith))) (λ k d within. sound' (suc k) d (omega (arith, within)))))

pub own-lines : (number : ℕ) (turns : List Turn) (rack : RackState) (state : TerminalState) → rack.reader number ≡ sits state → AreSound (own_turns number rack turns) → IsTerminals state (own_turns number rack turns)
own-lines number [] rack state holds sound = refl
own-lines number (turn ∷ turns) rack state holds sound = with-turn number rack state turn turns (own-lines number turns) (goes number rack state turn holds) sound

-- the text of a run of a terminal
pub run-text : (lines : List (List ℕ)) (state : TerminalState) → run_text statement_lines state lines ≡ statements_text state (map taken_line lines)
unfolding line_text line_step
run-text [] state = refl
run-text (line ∷ lines) state = ap (λ (t : List ℕ). (statement_effect state (taken_line line)).text ++ t) (run-text lines (statement_effect state (taken_line line)).next)
