use Rattle.std.specs.Str.Parse.{signed_digits_value}
use Rattle.std.proofs.lemmas.Str.{IsUtf8-from_ascii}
use Rattle.std.proofs.Common.{subst, sym, ◌∙◌}
use Rattle.std.specs.Prelude.{◌≡◌, List, ℕ, true}
use Rattle.std.specs.Str.Parse.{without_leading_sign}
use Rattle.model_text.specs.Token.{is_numeral}
use Rattle.acl_read_tokens.proofs.NumeralLemmas.{signed_ascii, signed_some, wide_value}
use Rattle.acl_read_tokens.proofs.numerals.signed.Goals as goal

pub unreachable-requires : goal.unreachable-requires
unreachable-requires c =
    let h : is_numeral c.args.base (without_leading_sign c.args.bytes.now) ≡ true = subst (λ (t : List ℕ). is_numeral c.args.base t ≡ true) c.unsigned.ensures (sym c.is_numeral.ensures ∙ c.if-not-is_numeral.false) in
    c.in-Err.ensures.cases.0 (IsUtf8-from_ascii c.args.bytes.now (signed_ascii c.args.base c.args.bytes.now c.requires.high h))

pub returns-in-Err-from_str_radix : goal.returns-in-Err-from_str_radix
returns-in-Err-from_str_radix c =
    let h : is_numeral c.args.base (without_leading_sign c.args.bytes.now) ≡ true = subst (λ (t : List ℕ). is_numeral c.args.base t ≡ true) c.unsigned.ensures (sym c.is_numeral.ensures ∙ c.if-not-is_numeral.false) in
    (signed_digits_value c.args.base c.args.bytes.now, signed_some c.args.base c.args.bytes.now h, wide_value c.args.base c.args.bytes.now c.in-Ok.text.now h c.in-Ok.ensures.cases.0 c.in-Err-from_str_radix.ensures.value)
