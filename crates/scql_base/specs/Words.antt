-- The status words that the card answers (ISO/IEC 7816-4, status bytes): the code's constants, by these names.
use Rattle.std.specs.Prelude.{ℕ, ◌+◌, nat_lt, if◌then◌else◌}
use Rattle.scql_base.specs.declared.words.StatusWord.{StatusWord}
use Rattle.scql_base.specs.declared.words.TheConstants.StatusWord.{DONE, END_REACHED, MEMORY_FAILURE, WRONG_LENGTH, CHANNEL_NOT_SUPPORTED, SECURE_MESSAGING_NOT_SUPPORTED, CHAINING_NOT_SUPPORTED, SECURITY_NOT_SATISFIED, AUTHENTICATION_BLOCKED, CONDITIONS_NOT_SATISFIED, WRONG_DATA, FUNCTION_NOT_SUPPORTED, RECORD_NOT_FOUND, NO_SPACE, WRONG_PARAMETERS, NOT_FOUND, ALREADY_EXISTS, INSTRUCTION_NOT_SUPPORTED, CLASS_NOT_SUPPORTED}

abbrev pub done : StatusWord
done = DONE

abbrev pub end_reached : StatusWord
end_reached = END_REACHED

abbrev pub memory_failure : StatusWord
memory_failure = MEMORY_FAILURE

abbrev pub wrong_length : StatusWord
wrong_length = WRONG_LENGTH

abbrev pub channel_not_supported : StatusWord
channel_not_supported = CHANNEL_NOT_SUPPORTED

abbrev pub secure_messaging_not_supported : StatusWord
secure_messaging_not_supported = SECURE_MESSAGING_NOT_SUPPORTED

abbrev pub chaining_not_supported : StatusWord
chaining_not_supported = CHAINING_NOT_SUPPORTED

abbrev pub security_not_satisfied : StatusWord
security_not_satisfied = SECURITY_NOT_SATISFIED

abbrev pub authentication_blocked : StatusWord
authentication_blocked = AUTHENTICATION_BLOCKED

abbrev pub conditions_not_satisfied : StatusWord
conditions_not_satisfied = CONDITIONS_NOT_SATISFIED

abbrev pub wrong_data : StatusWord
wrong_data = WRONG_DATA

abbrev pub function_not_supported : StatusWord
function_not_supported = FUNCTION_NOT_SUPPORTED

abbrev pub record_not_found : StatusWord
record_not_found = RECORD_NOT_FOUND

abbrev pub no_space : StatusWord
no_space = NO_SPACE

abbrev pub wrong_parameters : StatusWord
wrong_parameters = WRONG_PARAMETERS

abbrev pub not_found : StatusWord
not_found = NOT_FOUND

abbrev pub already_exists : StatusWord
already_exists = ALREADY_EXISTS

abbrev pub instruction_not_supported : StatusWord
instruction_not_supported = INSTRUCTION_NOT_SUPPORTED

abbrev pub class_not_supported : StatusWord
class_not_supported = CLASS_NOT_SUPPORTED

-- a number in four bits, where 15 stands for more
abbrev pub in_four_bits : ℕ → ℕ
in_four_bits n = if nat_lt n 16 then n else 15

-- 63CX: the secret was wrong, and so many tries are left
abbrev pub tries_left : ℕ → StatusWord
tries_left n = record { word = 0x63C0 + in_four_bits n }

-- a number of octets in SW2, where 256 and more is 00
abbrev pub in_sw2 : ℕ → ℕ
in_sw2 n = if nat_lt n 256 then n else 0

-- 61XX: so many octets are left of an answer
abbrev pub more_left : ℕ → StatusWord
more_left n = record { word = 0x6100 + in_sw2 n }

-- 6CXX: Le is wrong, the answer has so many octets
abbrev pub wrong_le : ℕ → StatusWord
wrong_le n = record { word = 0x6C00 + in_sw2 n }
