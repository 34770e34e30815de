use Rattle.std.proofs.Common.{◌≡◌, ◌≤◌, ◌<◌, ◌^◌, length, drop, true}
use Rattle.std.specs.List.{fold, list_all}
use Rattle.std.specs.Char.{is_ascii_digit}
use Rattle.card_run.specs.Words.{with_digit}
use Rattle.card_run.proofs.words.decimal_of.Given as goal

abbrev pub invariant-loop-digit : goal.invariant-loop-digit
invariant-loop-digit l = record {
  value : fold with_digit l.number (drop l.digit-index l.digits) ≡ fold with_digit 0 l.digits;
  below : l.number < 10 ^ l.digit-index;
  short : length l.digits ≤ 5;
  digits : list_all is_ascii_digit (drop l.digit-index l.digits) ≡ true;
}
