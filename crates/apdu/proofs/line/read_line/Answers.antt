-- What is read of a line as it is, is read of it without blanks.
use Rattle.std.proofs.Common.{sym, ◌∙◌}
use Rattle.apdu.proofs.Blanks.{same-content, read-so}
use Rattle.apdu.proofs.line.read_line.Goals as goal

pub returns-in_default-read_command : goal.returns-in_default-read_command
returns-in_default-read_command c = record {
  content =
      rw c.in-Some.is (
      c.read_command.ensures.content
      ∙ sym (same-content c.in-Some.octets.now (sym c.is_empty.ensures ∙ c.if-is_empty.false) (λ none. c.in_default-read_command.not-NotHexadecimal (read-so c.read_command.new.place c.read_command.result (c.read_command.ensures.content ∙ none)))));
  within = c.read_command.ensures.within;
}
