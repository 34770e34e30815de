-- Each line that is a reading command reads what is shown.
use Rattle.std.proofs.Common.{◌≡◌, ℕ, Bool, List, [], ◌∷◌, length, Option, Some, None, Result, Ok, Err, refl, sym, ap, subst, ◌∙◌, inl, inr}
use Rattle.std.specs.Prelude.{◌==◌, ◌%◌, if◌then◌else◌, codes}
use Rattle.std.specs.Str.{bytes_eq}
use Rattle.std.proofs.lemmas.Bool.{cases_Bool}
use Rattle.hex.specs.declared.error.FromHexError.{FromHexError}
use Rattle.hex.specs.declared.error.FromHexError.TheVariants.{OddLength}
use Rattle.hex.specs.Hex.{decode_of, decode_pairs}
use Rattle.hex.proofs.HexLemmas.{decode_pairs-ok}
use Rattle.scql_model.specs.Accepting.{channel_named}
use Rattle.scql_model.specs.Database.{Database, IsValid}
use Rattle.scql_model.specs.Machine.{Machine, start}
use Rattle.scql_model.specs.Lines.{LineContent, too_long, nothing, resets, not_hexadecimal, command, command_lines, content_effect, content_of, content_without_blanks, hexadecimal_in, line_step, line_text, reply_text, state_after, taken_line, without_blanks}
use Rattle.scql_model.specs.ReadingCommands.{ReadingCommand}
use Rattle.scql_model.specs.Shown.{shown_on}
use Rattle.scql_model.specs.ValidMachine.{IsValidMachine}
use Rattle.scql_model.proofs.CardReads.{reads-step}
use Rattle.scql_model.proofs.FieldLaws.{AreOctets}
use Rattle.scql_model.proofs.ValidSteps.{IsValidAnswer-step, IsValidMachine-start}
use Rattle.card_run.specs.Showing.{IsReadingLine, LinesReadShown, ReadsShown}

-- The octets of a command are octets.
decoded-octets : (text octets : List ℕ) → decode_of text ≡ Ok octets → AreOctets octets
decoded-octets text octets is = elim (cases_Bool (length text % 2 == 1)) [
  | inl odd ↦
      let none : Err OddLength ≡ Ok octets = subst (λ (b : Bool). (if b then Err OddLength else decode_pairs 0 text) ≡ Ok octets) odd is in
      absurd cc
  | inr even ↦ (decode_pairs-ok 0 text octets (subst (λ (b : Bool). (if b then Err OddLength else decode_pairs 0 text) ≡ Ok octets) even is)).2
]

hexadecimal-octets : (decoded : Result (List ℕ) FromHexError) (octets : List ℕ) → hexadecimal_in decoded ≡ command octets → decoded ≡ Ok octets
hexadecimal-octets (Ok found) octets is = cc is
hexadecimal-octets (Err e) octets is = absurd cc

content-octets : (line octets : List ℕ) → content_without_blanks line ≡ command octets → AreOctets octets
content-octets [] octets is = absurd cc
content-octets (first ∷ rest) octets is =
    let line : List ℕ = first ∷ rest in
    elim (cases_Bool (first == 0x23)) [
      | inl note ↦
          let none : nothing ≡ command octets =
          subst (λ (b : Bool). (if b then nothing else if bytes_eq line (codes "reset") then resets else hexadecimal_in (decode_of line)) ≡ command octets) note is in
          absurd cc
      | inr other ↦
          let behind : (if bytes_eq line (codes "reset") then resets else hexadecimal_in (decode_of line)) ≡ command octets =
          subst (λ (b : Bool). (if b then nothing else if bytes_eq line (codes "reset") then resets else hexadecimal_in (decode_of line)) ≡ command octets) other is in
          elim (cases_Bool (bytes_eq line (codes "reset"))) [
            | inl word ↦
                let none : resets ≡ command octets = subst (λ (b : Bool). (if b then resets else hexadecimal_in (decode_of line)) ≡ command octets) word behind in
                absurd cc
            | inr digits ↦
                decoded-octets line octets (hexadecimal-octets (decode_of line) octets (subst (λ (b : Bool). (if b then resets else hexadecimal_in (decode_of line)) ≡ command octets) digits behind))
          ]
    ]

line-octets : (line : Option (List ℕ)) (octets : List ℕ) → content_of line ≡ command octets → AreOctets octets
line-octets None octets is = absurd cc
line-octets (Some line) octets is = content-octets (without_blanks line) octets is

-- So each line keeps a machine valid.
valid-content : (m : Machine) (content : LineContent) → IsValidMachine m → ((octets : List ℕ) → content ≡ command octets → AreOctets octets) → IsValidMachine (content_effect m content).next
valid-content m (command octets) valid are = (IsValidAnswer-step m octets (are octets refl) valid).machine
valid-content m resets valid are = IsValidMachine-start m.committed valid.committed
valid-content m too_long valid are = valid
valid-content m nothing valid are = valid
valid-content m not_hexadecimal valid are = valid

valid-line : (m : Machine) (line : List ℕ) → IsValidMachine m → IsValidMachine (line_step command_lines m line)
unfolding line_step
valid-line m line valid = valid-content m (content_of (taken_line line)) valid (line-octets (taken_line line))

valid-after : (m : Machine) (before : List (List ℕ)) → IsValidMachine m → IsValidMachine (state_after command_lines m before)
valid-after m [] valid = valid
valid-after m (line ∷ before) valid = valid-after (line_step command_lines m line) before (valid-line m line valid)

-- What a reading command is answered.
reads-line : (m : Machine) (line : List ℕ) (channel : ℕ) (reading : ReadingCommand) → IsValidMachine m → IsReadingLine m line channel reading → ReadsShown m line channel reading
unfolding line_text line_step
reads-line m line channel reading valid is =
    let law = reads-step m is.octets reading valid is.are in
    subst (λ (named : ℕ). ReadsShown m line named reading) (sym is.named) (record {
      text = ap (λ (content : LineContent). (content_effect m content).text) is.content ∙ ap reply_text law.reply;
      after = ap (λ (content : LineContent). shown_on (content_effect m content).next (channel_named is.octets)) is.content ∙ law.after;
      others = λ other apart. ap (λ (content : LineContent). shown_on (content_effect m content).next other) is.content ∙ law.others other apart;
    })

pub lines-read-shown : (db : Database) → IsValid db → LinesReadShown (start db)
lines-read-shown db valid = λ before line channel reading is. reads-line (state_after command_lines (start db) before) line channel reading (valid-after (start db) before (IsValidMachine-start db valid)) is
