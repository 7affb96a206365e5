-- What is printed, in terms of a table and a heap.
use Rattle.std.specs.Prelude.{ℕ, List, [], Bool, false}
use Rattle.std.specs.Fmt.{signed_decimal}
use Rattle.model_symbols.specs.Symbols.{QualifiedName, Table, symbol_at, same_name}
use Rattle.model_symbols.specs.Opening.{nil_name}
use Rattle.model_text.specs.Token.{Packages}
use Rattle.model_text.specs.Text.{symbol_text, string_text, spelled, text}
use Rattle.acl_base.specs.declared.Word.{Word}
use Rattle.acl_heap.specs.Objects.{Objects}
use Rattle.acl_heap.specs.declared.Seen.{Seen}
use Rattle.acl_heap.specs.declared.Seen.TheVariants as seen
use Rattle.acl_forms.specs.Forms.{form_at}

-- the packages of a table, with the number of the current one
abbrev pub packages_in : Table → ℕ → Packages
packages_in t current = record { all = t.packages; current = current }

-- the printed form of what a word stands for
abbrev pub printed : Table → ℕ → Objects → Word → List ℕ
printed t current h w = text t.packages current (form_at t h w)

-- the text of what a word stands for (false), or of the rest of a list that it is, with its bracket (true)
abbrev pub spelled_at : Table → ℕ → Objects → Word → Bool → List ℕ
spelled_at t current h w rest = spelled (packages_in t current) (form_at t h w) rest

-- the text of an atom that is seen; a pair has none
abbrev pub seen_text : Table → ℕ → Seen → List ℕ
seen_text t current (seen.Integer n) = signed_decimal n
seen_text t current (seen.Symbol s) = symbol_text (packages_in t current) (symbol_at t.symbols s.0)
seen_text t current (seen.Text bytes) = string_text bytes.now
seen_text t current (seen.Pair a d) = []

-- the symbol of this number is NIL
abbrev pub is_nil_symbol : List QualifiedName → ℕ → Bool
is_nil_symbol symbols n = same_name (symbol_at symbols n) nil_name

abbrev pub is_seen_nil : List QualifiedName → Seen → Bool
is_seen_nil symbols (seen.Integer n) = false
is_seen_nil symbols (seen.Symbol s) = is_nil_symbol symbols s.0
is_seen_nil symbols (seen.Text bytes) = false
is_seen_nil symbols (seen.Pair a d) = false
