-- What is known of a form that was read.
use Rattle.std.specs.Prelude.{◌≡◌, ℕ, ◌<◌, ◌≤◌, nat_le, List, length, Bool, true, false, if◌then◌else◌, refl}
use Rattle.std.proofs.Common.{sym, ap, ◌∙◌, subst, arith}
use Rattle.std.proofs.lemmas.Bool.Decides.{nat_tests}
use Rattle.model_objects.specs.Object.{weight, max_weight}
use Rattle.model_symbols.specs.Symbols.{QualifiedName, Table}
use Rattle.model_symbols.specs.Growth.{IsSymbol, Extends}
use Rattle.model_symbols.specs.Opening.{opening, common_lisp_symbols, common_lisp_text, acl2_symbols, acl2_text, acl2_package, nil_name, quote_name}
use Rattle.model_symbols.proofs.TableLemmas.{Extends-self, Extends-then}
use Rattle.model_text.specs.Token.{Form}
use Rattle.model_text.specs.Backquote.{cons_name, append_name}
use Rattle.model_text.specs.Next.{Gives, Fails, whole}
use Rattle.model_text.specs.declared.TextCause.TheVariants.{TooLarge}
use Rattle.acl_base.specs.declared.Word.{Word}
use Rattle.acl_heap.specs.Objects.{Objects}
use Rattle.acl_forms.specs.Forms.{form_at, StandsFor, Grown}
use Rattle.acl_forms.specs.Growth.{Grown-symbols, Grown-then}
use Rattle.acl_read_lexemes.specs.Lexemes.{form_of}
use Rattle.acl_read_scan.specs.declared.Built.{Built}
use Rattle.acl_read_scan.specs.Built.{Grows}
use Rattle.acl_read_scan.specs.Scanning.{form_step}
use Rattle.acl_read_build.specs.Building.{HasNames}

nil_is : IsSymbol opening.symbols 1 nil_name
unfolding opening common_lisp_symbols common_lisp_text acl2_symbols acl2_text acl2_package
nil_is = refl

quote_is : IsSymbol opening.symbols 2 quote_name
unfolding opening common_lisp_symbols common_lisp_text acl2_symbols acl2_text acl2_package
quote_is = refl

cons_is : IsSymbol opening.symbols 8 cons_name
unfolding opening common_lisp_symbols common_lisp_text acl2_symbols acl2_text acl2_package
cons_is = refl

append_is : IsSymbol opening.symbols 144 append_name
unfolding opening common_lisp_symbols common_lisp_text acl2_symbols acl2_text acl2_package
append_is = refl

pub names_of : (t : Table) → Extends opening t → HasNames t
names_of t e = record { nil = e.same 1 nil_name nil_is; quote = e.same 2 quote_name quote_is; cons = e.same 8 cons_name cons_is; append = e.same 144 append_name append_is }

pub opened_later : (t u : Table) → Extends opening t → Grows t u → Extends opening u
opened_later t u e g = Extends-then e g.extends

whole_light : (f : Form) (at first : ℕ) (symbols : List QualifiedName) → weight f ≤ max_weight → whole f at first symbols ≡ Gives f at symbols
whole_light f at first symbols l = let e : nat_le (weight f) max_weight ≡ true = grind (arith, nat_tests) in ap (λ (b : Bool). if b then Gives f at symbols else Fails TooLarge first) e

whole_heavy : (f : Form) (at first : ℕ) (symbols : List QualifiedName) → max_weight < weight f → whole f at first symbols ≡ Fails TooLarge first
whole_heavy f at first symbols l = let e : nat_le (weight f) max_weight ≡ false = grind (arith, nat_tests) in ap (λ (b : Bool). if b then Gives f at symbols else Fails TooLarge first) e

-- a form that is not too heavy stands
pub light_form : (t : Table) (h : Objects) (b : Built) (w : Word) → StandsFor t h w (form_of t.symbols b.lexemes.items) → weight (form_of t.symbols b.lexemes.items) ≤ max_weight
    → form_step t b ≡ Gives (form_at t h w) b.at t.symbols
light_form t h b w s l = whole_light (form_of t.symbols b.lexemes.items) b.at b.first t.symbols l ∙ ap (λ (f : Form). Gives f b.at t.symbols) (sym s.is)

pub heavy_form : (t : Table) (b : Built) → max_weight < weight (form_of t.symbols b.lexemes.items) → form_step t b ≡ Fails TooLarge b.first
heavy_form t b l = whole_heavy (form_of t.symbols b.lexemes.items) b.at b.first t.symbols l

-- ---- growth

pub grown_scan : {t u : Table} (h : Objects) → Grows t u → Grown t u h h
grown_scan h g = Grown-symbols g.extends

pub grown_after : {t u : Table} {h k : Objects} → Grows t u → Grown u u h k → Grown t u h k
grown_after {t} {u} {h} {k} g n = Grown-then (Grown-symbols g.extends) n

-- the table that every session begins with has more than two packages
pub opening_many : (t : Table) → t ≡ opening → 2 < length t.packages
unfolding opening
opening_many t e = rw e (omega arith)

pub opening_self : (t : Table) → t ≡ opening → Extends opening t
opening_self t e = let P : Table → Type 0 = λ u. Extends opening u in subst P (sym e) (Extends-self opening)
