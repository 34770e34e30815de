-- Blanks change nothing of a line that is read as it is.
use Rattle.std.proofs.Common.{◌≡◌, ℕ, ◌==◌, true, false, List, [], ◌∷◌, length, Result, Ok, Err, refl, sym, ap, subst, ◌∙◌, inl, inr, codes}
use Rattle.std.specs.List.{list_all}
use Rattle.std.specs.Str.{bytes_eq}
use Rattle.std.proofs.lemmas.Bool.{cases_Bool, and_parts, eqb-true, false≢true}
use Rattle.std.proofs.lemmas.List.Sums.{list_all-from_AllPass}
use Rattle.std.proofs.lemmas.Slice.Eq.{bytes_eq-Decides}
use Rattle.hex.specs.Hex.{decode_of, is_hex_digit}
use Rattle.hex.specs.declared.error.FromHexError.{FromHexError}
use Rattle.hex.proofs.HexLemmas.{decode_of-ok}
use Rattle.scql_model.specs.Lines.{content_without_blanks, hexadecimal_in, is_blank, not_hexadecimal, without_blanks}
use Rattle.apdu.specs.declared.line.LineContent.{LineContent}
use Rattle.apdu.specs.declared.line.LineContent.TheVariants.{TooLong, Nothing, Reset, NotHexadecimal, Command}
use Rattle.apdu.specs.Line.{content_view}

-- no digit is a blank
digit-blank : (octet : ℕ) → is_hex_digit octet ≡ true → is_blank octet ≡ false
digit-blank octet digit = elim (cases_Bool (octet == 0x20)) [
  | inl e ↦ absurd (let space : octet ≡ 0x20 = eqb-true octet 0x20 e in let wrong : is_hex_digit 0x20 ≡ true = subst (λ (n : ℕ). is_hex_digit n ≡ true) space digit in false≢true wrong)
  | inr space ↦
      elim (cases_Bool (octet == 0x09)) [
        | inl e ↦ absurd (let tab : octet ≡ 0x09 = eqb-true octet 0x09 e in let wrong : is_hex_digit 0x09 ≡ true = subst (λ (n : ℕ). is_hex_digit n ≡ true) tab digit in false≢true wrong)
        | inr tab ↦
            elim (cases_Bool (octet == 0x0D)) [
              | inl e ↦ absurd (let back : octet ≡ 0x0D = eqb-true octet 0x0D e in let wrong : is_hex_digit 0x0D ≡ true = subst (λ (n : ℕ). is_hex_digit n ≡ true) back digit in false≢true wrong)
              | inr back ↦ rw (space, tab, back) refl
            ]
      ]
]

digits-stay : (line : List ℕ) → list_all is_hex_digit line ≡ true → without_blanks line ≡ line
digits-stay [] digits = refl
digits-stay (octet ∷ line) digits =
    let parts = and_parts (is_hex_digit octet) (list_all is_hex_digit line) digits in
    rw (digit-blank octet parts.0) (ap (λ (rest : List ℕ). octet ∷ rest) (digits-stay line parts.1))

-- no line of digits is a note or a word
digits-content : (first : ℕ) (rest : List ℕ) → list_all is_hex_digit (first ∷ rest) ≡ true → content_without_blanks (first ∷ rest) ≡ hexadecimal_in (decode_of (first ∷ rest))
digits-content first rest digits = elim (cases_Bool (first == 0x23)) [
  | inl note ↦
      absurd (
      let wrong : list_all is_hex_digit (0x23 ∷ rest) ≡ true = subst (λ (octet : ℕ). list_all is_hex_digit (octet ∷ rest) ≡ true) (eqb-true first 0x23 note) digits in
      false≢true wrong)
  | inr no_note ↦
      elim (cases_Bool (bytes_eq (first ∷ rest) (codes "reset"))) [
        | inl word ↦
            absurd (
            let wrong : list_all is_hex_digit (codes "reset") ≡ true = subst (λ (line : List ℕ). list_all is_hex_digit line ≡ true) ((bytes_eq-Decides (first ∷ rest) (codes "reset")).0 word) digits in
            false≢true wrong)
        | inr no_word ↦ rw (no_note, no_word) refl
      ]
]

-- A line that is hexadecimal as it is has no blanks.
pub same-content : (line : List ℕ) → (length line == 0) ≡ false → (hexadecimal_in (decode_of line) ≡ not_hexadecimal → ⊥) → content_without_blanks (without_blanks line) ≡ hexadecimal_in (decode_of line)
same-content [] some other = absurd (false≢true (sym some))
same-content (first ∷ rest) some other = read (decode_of (first ∷ rest)) refl
  where
    read : (decoded : Result (List ℕ) FromHexError) → decode_of (first ∷ rest) ≡ decoded → content_without_blanks (without_blanks (first ∷ rest)) ≡ hexadecimal_in (decode_of (first ∷ rest))
    read (Ok octets) is =
        let digits : list_all is_hex_digit (first ∷ rest) ≡ true = list_all-from_AllPass is_hex_digit (first ∷ rest) (decode_of-ok (first ∷ rest) octets is).1 in
        ap content_without_blanks (digits-stay (first ∷ rest) digits) ∙ digits-content first rest digits
    read (Err e) is = absurd (other (rw is refl))

-- what is read as such a line
pub read-so : (place : List ℕ) (read : LineContent) → content_view place read ≡ not_hexadecimal → read ≡ NotHexadecimal
read-so place NotHexadecimal is = refl
read-so place TooLong is = absurd cc
read-so place Nothing is = absurd cc
read-so place Reset is = absurd cc
read-so place (Command size) is = absurd cc
