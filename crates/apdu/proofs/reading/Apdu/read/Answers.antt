-- Octets are too few, refused before or on their channel, or an APDU.
use Rattle.apdu.specs.Reading.{apdu_view}
use Rattle.apdu.proofs.FormsRead.{form_of-short, form_of-nowhere, form_of-refused, form_of-apdu}
use Rattle.apdu.proofs.reading.Apdu.read.Goals as goal

pub returns-in_default-clause-form : goal.returns-in_default-clause-form
returns-in_default-clause-form c = λ chain limit. form_of-short c.args.octets.now c.args.channels chain limit c.in_default.len_below

pub returns-in-Err-clause-form : goal.returns-in-Err-clause-form
returns-in-Err-clause-form c = λ chain limit. form_of-nowhere c.args.octets.now c.args.channels chain limit c.in-Err.word c.in-len4-up.len_at_least c.in-Err.ensures.channel

pub returns-in-Err-apdu_on-clause-form : goal.returns-in-Err-apdu_on-clause-form
returns-in-Err-apdu_on-clause-form c = λ chain limit.
    form_of-refused c.args.octets.now c.args.channels chain limit c.in-Ok.channel c.in-Err-apdu_on.word c.in-len4-up.len_at_least c.in-Ok.ensures.channel c.in-Err-apdu_on.ensures.apdu

pub returns-in-Ok-apdu_on-clause-form : goal.returns-in-Ok-apdu_on-clause-form
returns-in-Ok-apdu_on-clause-form c = λ chain limit.
    form_of-apdu c.args.octets.now c.args.channels chain limit c.in-Ok.channel (apdu_view c.in-Ok-apdu_on.apdu) c.in-len4-up.len_at_least c.in-Ok.ensures.channel c.in-Ok-apdu_on.ensures.apdu c.in-Ok-apdu_on.ensures.channel
