-- `T` and `NIL` are known in each table that grew from the one that every session begins with.
use Rattle.std.specs.Prelude.{◌≡◌, ℕ, ◌<◌, length, refl}
use Rattle.std.proofs.Common.{arith, sym, subst}
use Rattle.model_symbols.specs.Symbols.{Table}
use Rattle.model_symbols.proofs.TableLemmas.{Extends-self, Extends-then}
use Rattle.acl_heap.specs.Objects.{Objects}
use Rattle.acl_forms.specs.Forms.{Grown}
use Rattle.model_symbols.specs.Growth.{Extends}
use Rattle.model_symbols.specs.Opening.{opening, nil, common_lisp_symbols, common_lisp_text, acl2_symbols, acl2_text}

many : (n : ℕ) → n ≡ 196 → 1 < n
many n e = omega (arith, e)

opening_truth : nil < length opening.symbols
unfolding opening common_lisp_symbols common_lisp_text acl2_symbols acl2_text
opening_truth = many (length opening.symbols) refl

pub truth_known : (t : Table) → Extends opening t → nil < length t.symbols
truth_known t e = omega (arith, e.longer, opening_truth)

-- each table grew from the opening one that is it, or that a call made of such a table
pub opened_at_first : (t : Table) → t ≡ opening → Extends opening t
opened_at_first t e = subst (λ (u : Table). Extends opening u) (sym e) (Extends-self opening)

pub opened_later : (t t' : Table) (h h' : Objects) → Extends opening t → Grown t t' h h' → Extends opening t'
opened_later t t' h h' e g = Extends-then e g.table

pub ruleset opened = (truth_known, opened_at_first, opened_later)
