-- Backquotes: what stands inside one, and the form that it is short for (Common Lisp the Language, second edition, 22.1.3,
-- Backquote).
use Rattle.std.specs.Prelude.{List, [], ◌∷◌, Bool, true, false, ◌||◌, if◌then◌else◌, codes}
use Rattle.model_objects.specs.Object.{Symbol, Pair, list_onto}
use Rattle.model_symbols.specs.Symbols.{QualifiedName}
use Rattle.model_symbols.specs.Opening.{common_lisp, acl2, nil_name, quote_name}
use Rattle.model_text.specs.Token.{Form}

abbrev pub cons_name : QualifiedName
cons_name = record { home = common_lisp; name = codes "CONS" }

abbrev pub append_name : QualifiedName
append_name = record { home = acl2; name = codes "BINARY-APPEND" }

abbrev pub nil_form : Form
nil_form = Symbol nil_name

-- (QUOTE f)
abbrev pub quote_form : Form → Form
quote_form f = list_onto (Symbol quote_name ∷ f ∷ []) nil_form

-- (CONS a d)
abbrev pub cons_form : Form → Form → Form
cons_form a d = list_onto (Symbol cons_name ∷ a ∷ d ∷ []) nil_form

-- (BINARY-APPEND a d)
abbrev pub append_form : Form → Form → Form
append_form a d = list_onto (Symbol append_name ∷ a ∷ d ∷ []) nil_form

-- ---- templates

-- what stands inside a backquote: a form without commas, `,f`, `,@f`, or a pair
pub data Template : Type 0 where
  Constant : Form → Template
  Comma : Form → Template
  CommaAt : Form → Template
  Both : Template → Template → Template

abbrev pub has_comma : Template → Bool
has_comma (Constant f) = false
has_comma (Comma f) = true
has_comma (CommaAt f) = true
has_comma (Both a d) = has_comma a || has_comma d

-- a template, read as the form that it is without commas
abbrev pub form_of : Template → Form
form_of (Constant f) = f
form_of (Comma f) = f
form_of (CommaAt f) = f
form_of (Both a d) = Pair (form_of a) (form_of d)

-- the form of a pair with commas, whose parts' forms are given
abbrev pub pair_expansion : Template → Form → Form → Form
pair_expansion (CommaAt x) a d = append_form x d
pair_expansion (Constant f) a d = cons_form a d
pair_expansion (Comma x) a d = cons_form a d
pair_expansion (Both b c) a d = cons_form a d

-- the form that a backquote before the template is short for
abbrev pub expansion : Template → Form
expansion (Constant f) = quote_form f
expansion (Comma x) = x
expansion (CommaAt x) = x
expansion (Both a d) = if has_comma a || has_comma d then pair_expansion a (expansion a) (expansion d) else quote_form (Pair (form_of a) (form_of d))

-- ---- the same, kept as it is read

-- what is read: a form without commas; what has commas, by the form that it expands to; or what is spliced
pub data Item : Type 0 where
  Plain : Form → Item
  Made : Form → Item
  Spliced : Form → Item

-- the form in it
abbrev pub item_form : Item → Form
item_form (Plain f) = f
item_form (Made f) = f
item_form (Spliced f) = f

-- the form that a backquote before it is short for
abbrev pub item_expansion : Item → Form
item_expansion (Plain f) = quote_form f
item_expansion (Made f) = f
item_expansion (Spliced f) = f

-- a pair
abbrev pub joined : Item → Item → Item
joined (Plain a) (Plain d) = Plain (Pair a d)
joined (Plain a) (Made d) = Made (cons_form (quote_form a) d)
joined (Plain a) (Spliced d) = Made (cons_form (quote_form a) d)
joined (Made a) d = Made (cons_form a (item_expansion d))
joined (Spliced a) d = Made (append_form a (item_expansion d))

-- a list, before an end
abbrev pub joined_onto : List Item → Item → Item
joined_onto [] end = end
joined_onto (i ∷ is) end = joined i (joined_onto is end)

abbrev pub quoted_item : Item → Item
quoted_item i = joined_onto (Plain (Symbol quote_name) ∷ i ∷ []) (Plain nil_form)

-- a template, as it is read
abbrev pub item_of : Template → Item
item_of (Constant f) = Plain f
item_of (Comma f) = Made f
item_of (CommaAt f) = Spliced f
item_of (Both a d) = joined (item_of a) (item_of d)
