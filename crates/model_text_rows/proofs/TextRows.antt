-- The rows of texts, each computed.
use Rattle.std.specs.Prelude.{refl}
use Rattle.std.specs.Fmt.{digits}
use Rattle.model_text.specs.Token.{token_of}
use Rattle.model_text.specs.Next.{step, next_at}
use Rattle.model_text_rows.specs.TextRows.{Integers, Symbols, Bars, BadTokens, UnknownPackages, Lists, Dots, Strings, Ends, Quotes, Backquotes, Commas, Bytes, FaultsTogether, Limits, Printed}

pub integers : Integers
unfolding next_at step token_of digits
integers = record {
  plain = refl;
  dot_behind = refl;
  minus_nothing = refl;
  binary = refl;
  octal = refl;
  hexadecimal = refl;
  most = refl;
  least = refl;
  above = refl;
  below = refl;
  wide_hexadecimal = refl;
  at_the_end = refl;
  not_yet = refl;
}

pub symbols : Symbols
unfolding next_at step token_of digits
symbols = record {
  raised = refl;
  sign_behind = refl;
  sign_and_dot = refl;
  no_exponent = refl;
  no_fraction = refl;
  dot_first = refl;
  imported = refl;
  prefixed_import = refl;
  other_package = refl;
  keyword = refl;
  known = refl;
}

pub bars : Bars
unfolding next_at step token_of digits
bars = record {
  kept = refl;
  in_the_middle = refl;
  escaped_bar = refl;
  empty = refl;
  empty_keyword = refl;
  empty_in_package = refl;
  hash_inside = refl;
  hash_alone = refl;
  no_number = refl;
  no_dot = refl;
  no_radix = refl;
  package_in_bars = refl;
  delimiters_inside = refl;
}

pub bad_tokens : BadTokens
unfolding next_at step token_of digits
bad_tokens = record {
  ratio = refl;
  float = refl;
  float_without_digits = refl;
  exponent = refl;
  dot_and_exponent = refl;
  dots = refl;
  lone_colon = refl;
  missing_name = refl;
  missing_package = refl;
  one_colon = refl;
  three_parts = refl;
  keyword_with_colon = refl;
  bars_before_colon = refl;
  backslash = refl;
  hash = refl;
  no_such_digit = refl;
  bars_behind_hash = refl;
}

pub unknown_packages : UnknownPackages
unfolding next_at step token_of digits
unknown_packages = record {
  unknown = refl;
  hidden = refl;
  hidden_in_bars = refl;
  small_letters = refl;
  empty = refl;
  badly_written_first = refl;
}

pub lists : Lists
unfolding next_at step token_of digits
lists = record {
  empty = refl;
  blanks = refl;
  dotted = refl;
  dot_before_bracket = refl;
  dot_in_symbol = refl;
  dot_behind_number = refl;
  brackets_end_tokens = refl;
  bracket_ends_form = refl;
  comment_behind_tail = refl;
  stray = refl;
  unfinished = refl;
}

pub dots : Dots
unfolding next_at step token_of digits
dots = record {
  outside = refl;
  first = refl;
  behind_quote = refl;
  before_bracket = refl;
  second = refl;
  second_at_once = refl;
  two_forms = refl;
  two_forms_list = refl;
  two_forms_quote = refl;
  before_bracket_outside = refl;
  symbol_with_dot = refl;
  second_before_bracket = refl;
  hash_alone = refl;
  hash_goes_on = refl;
  at_the_end = refl;
  open_at_the_end = refl;
  second_at_the_end = refl;
}

pub strings : Strings
unfolding next_at step token_of digits
strings = record {
  escapes = refl;
  any_byte = refl;
  string_ends_token = refl;
  line = refl;
  block = refl;
  nested = refl;
  opens_again = refl;
  closes_at_once = refl;
  bar_before_end = refl;
  comment_in_list = refl;
  comment_behind_quote = refl;
  comment_behind_token = refl;
}

pub ends : Ends
unfolding next_at step token_of digits
ends = record {
  nothing = refl;
  blanks = refl;
  line = refl;
  line_in_form = refl;
  block = refl;
  block_in_form = refl;
  string = refl;
  bars = refl;
  quote = refl;
  comma = refl;
  bad_token_first = refl;
  hash = refl;
}

pub quotes : Quotes
unfolding next_at step token_of digits
quotes = record {
  quoted = refl;
  blank_between = refl;
  twice = refl;
  ends_token = refl;
  in_tail = refl;
  closed_by_bracket = refl;
  closed_by_comma = refl;
  closed_behind_splice = refl;
}

pub backquotes : Backquotes
unfolding next_at step token_of digits
backquotes = record {
  constant = refl;
  constant_list = refl;
  comma = refl;
  element = refl;
  spliced = refl;
  spliced_first = refl;
  spliced_last = refl;
  tail = refl;
  quote_inside = refl;
  list_inside = refl;
  backquote_in_comma = refl;
  comma_and_blank = refl;
  splice_and_blank = refl;
}

pub commas : Commas
unfolding next_at step token_of digits
commas = record {
  outside = refl;
  in_list = refl;
  twice = refl;
  spliced_alone = refl;
  spliced_in_tail = refl;
  spliced_behind_quote = refl;
  backquote_twice = refl;
  backquote_in_list = refl;
  not_yet = refl;
  second_form_first = refl;
  second_form_backquote = refl;
}

pub bytes : Bytes
unfolding next_at step token_of digits
bytes = record {
  high = refl;
  control = refl;
  vertical_tab = refl;
  delete = refl;
  ends_no_token = refl;
  form_feed = refl;
  in_bars = refl;
  in_comment = refl;
  behind_tail = refl;
  behind_hash = refl;
  behind_open_dot = refl;
}

pub faults_together : FaultsTogether
unfolding next_at step token_of digits
faults_together = record {
  token_then_bracket = refl;
  package_then_bracket = refl;
  tail_then_ratio = refl;
  tail_then_string = refl;
  wide_then_bracket = refl;
}

pub limits : Limits
unfolding next_at step token_of digits
limits = record {
  deep_enough = refl;
  too_deep = refl;
  too_many_quotes = refl;
  last_byte = refl;
  too_long = refl;
  ends_no_token = refl;
  misplaced_splice = refl;
  splice_too_long = refl;
  form_fills = refl;
  form_too_long = refl;
  comment_counts = refl;
  stray_first = refl;
  weight_fits = refl;
  too_large = refl;
  no_symbol_more = λ symbols h. rw h refl;
}

pub printed : Printed
unfolding next_at step token_of digits
printed = record {
  integer = refl;
  own_symbol = refl;
  imported = refl;
  not_imported = refl;
  from_elsewhere = refl;
  hidden_by_import = refl;
  keyword = refl;
  keyword_in_bars = refl;
  small_letter = refl;
  empty_name = refl;
  bar_inside = refl;
  backslash_inside = refl;
  like_integer = refl;
  like_ratio = refl;
  like_float = refl;
  like_dots = refl;
  not_like_number = refl;
  hash = refl;
  colon = refl;
  package_in_bars = refl;
  string = refl;
  list = refl;
  dotted = refl;
  quoted = refl;
}
