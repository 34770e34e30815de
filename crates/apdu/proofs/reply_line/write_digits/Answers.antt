-- The digits of the body and of the word, in upper case.
use Rattle.std.proofs.Common.{rules, ◌/◌, ◌%◌, ◌∷◌, ◌≡◌, []}
use Rattle.apdu.proofs.HexadecimalTexts.{both-upper}
use Rattle.apdu.proofs.reply_line.write_digits.Goals as goal

pub returns : goal.returns
returns c =
    let body : c.deref.result.now ≡ c.args.reply.now.body = search rules in
    let octets : c.to_be_bytes.result ≡ (c.args.reply.now.word.word / 256) ∷ (c.args.reply.now.word.word % 256) ∷ [] = search rules in
    rw (c.make_ascii_uppercase.ensures.after, c.print_into.ensures, c.print_into-2.ensures, body, octets)
    (both-upper c.args.reply.now.body ((c.args.reply.now.word.word / 256) ∷ (c.args.reply.now.word.word % 256) ∷ []))
