-- Growth of table and heap: it is of both at once, of either alone, and step by step.
use Rattle.std.specs.Prelude.{◌≡◌, ℕ, ◌<◌, ◌≤◌, List, [], ◌∷◌, length, refl}
use Rattle.std.proofs.Common.{sym, ap, ◌∙◌, subst, arith}
use Rattle.model_objects.specs.Object.{Object}
use Rattle.model_objects.specs.Named.{Knows}
use Rattle.model_objects.proofs.NamedLemmas.{Symbols-weaker, named-agrees}
use Rattle.model_symbols.specs.Symbols.{Table, symbol_at, package_at, form_of}
use Rattle.model_symbols.specs.Growth as tables
use Rattle.model_symbols.proofs.NameLemmas.{symbol-at, symbol_at-is, package-at, package_at-is}
use Rattle.model_symbols.proofs.TableLemmas as table_growth
use Rattle.acl_base.specs.declared.Word.{Word}
use Rattle.acl_heap.specs.Objects.{Objects, object_of, Lies}
use Rattle.acl_heap.specs.Objects as heaps
use Rattle.acl_heap.specs.Growth as heap_growth
use Rattle.acl_forms.specs.Forms.{form_at, forms_at, IsWhole, AreWhole, Grown}

pub symbol_later : {t t' : Table} → tables.Extends t t' → (n : ℕ) → n < length t.symbols → symbol_at t'.symbols n ≡ symbol_at t.symbols n
symbol_later {t} {t'} e n l = symbol_at-is t'.symbols n (symbol_at t.symbols n) (e.same n (symbol_at t.symbols n) (symbol-at t.symbols n l))

pub package_later : {t t' : Table} → tables.Extends t t' → (n : ℕ) → n < length t.packages → package_at t'.packages n ≡ package_at t.packages n
package_later {t} {t'} e n l = package_at-is t'.packages n (package_at t.packages n) (e.same_package n (package_at t.packages n) (package-at t.packages n l))

pub Knows-later : (m n : ℕ) (o : Object ℕ) → m ≤ n → Knows m o → Knows n o
Knows-later m n o l k = Symbols-weaker (λ s. s < m) (λ s. s < n) (λ s p. omega arith) o k

pub form_of-later : {t t' : Table} → tables.Extends t t' → (o : Object ℕ) → Knows (length t.symbols) o → form_of t'.symbols o ≡ form_of t.symbols o
form_of-later {t} {t'} e o k =
    named-agrees (symbol_at t'.symbols) (symbol_at t.symbols) o
    (Symbols-weaker (λ s. s < length t.symbols) (λ s. symbol_at t'.symbols s ≡ symbol_at t.symbols s) (λ s l. symbol_later e s l) o k)

module _ {t t' : Table} {h h' : Objects} (e : heaps.Extends h h') (f : tables.Extends t t') where
  lies_later : (w : Word) → Lies h w → Lies h' w
  lies_later w l = omega (arith, e.longer)

  whole_later : (w : Word) → IsWhole t h w → IsWhole t' h' w
  whole_later w i = record {
    lies = lies_later w i.lies;
    known = subst (λ (o : Object ℕ). Knows (length t'.symbols) o) (sym (e.same w i.lies)) (Knows-later (length t.symbols) (length t'.symbols) (object_of h w) f.longer i.known);
  }

  form_later : (w : Word) → IsWhole t h w → form_at t' h' w ≡ form_at t h w
  form_later w i = ap (form_of t'.symbols) (e.same w i.lies) ∙ form_of-later f (object_of h w) i.known

  wholes_later : (ws : List Word) → AreWhole t h ws → AreWhole t' h' ws
  wholes_later [] a = tt
  wholes_later (w ∷ ws) a = (whole_later w a.0, wholes_later ws a.1)

  forms_later : (ws : List Word) → AreWhole t h ws → forms_at t' h' ws ≡ forms_at t h ws
  forms_later [] a = refl
  forms_later (w ∷ ws) a = rw (form_later w a.0, forms_later ws a.1) refl

  pub Grown-both : Grown t t' h h'
  Grown-both = record {
    heap = e;
    table = f;
    lies = lies_later;
    object = λ w l. e.same w l;
    whole = whole_later;
    form = form_later;
    wholes = wholes_later;
    forms = forms_later;
    stands = λ w form s. record { whole = whole_later w s.whole; is = form_later w s.whole ∙ s.is };
    same_symbol = λ n l. symbol_later f n l;
    same_package = λ n l. package_later f n l;
  }

pub Grown-heap : {t : Table} {h h' : Objects} → heaps.Extends h h' → Grown t t h h'
Grown-heap {t} e = Grown-both e (table_growth.Extends-self t)

pub Grown-symbols : {t t' : Table} {h : Objects} → tables.Extends t t' → Grown t t' h h
Grown-symbols {t} {t'} {h} f = Grown-both (heap_growth.Extends-self h) f

pub Grown-self : (t : Table) (h : Objects) → Grown t t h h
Grown-self t h = Grown-heap (heap_growth.Extends-self h)

pub Grown-then : {a b c : Table} {x y z : Objects} → Grown a b x y → Grown b c y z → Grown a c x z
Grown-then e f = Grown-both (heap_growth.Extends-then e.heap f.heap) (table_growth.Extends-then e.table f.table)

pub ruleset growing = (Grown-then, Grown-heap, Grown-symbols, Grown-self)
