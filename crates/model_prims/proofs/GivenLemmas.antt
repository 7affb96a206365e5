-- What a checked primitive gives.
use Rattle.std.specs.Prelude.{◌≡◌, ℕ, ◌<◌, List, [], ◌∷◌, ◌++◌, length, Bool, true, false, Option, Some, None, ℤ, nat_le, unwrap_or, if◌then◌else◌, refl}
use Rattle.std.proofs.Common.{arith, sym, subst}
use Rattle.model_objects.specs.Object.{Object, Symbol, weight, max_weight}
use Rattle.model_objects.specs.Named.{Knows}
use Rattle.model_symbols.specs.Symbols.{QualifiedName, Table, number_of, interned, is_one_too_many, symbol_at}
use Rattle.model_symbols.specs.Opening.{nil}
use Rattle.model_symbols.proofs.NameLemmas.{number_within, number-push_same, interned-known, interned-new}
use Rattle.model_prims.specs.Kinds.{by_number}
use Rattle.model_prims.specs.Numbers.{in_range, power_in_range, shift_in_range}
use Rattle.model_prims.specs.Lists.{updated}
use Rattle.model_prims.specs.Guards.{guard}
use Rattle.model_prims.specs.Values.{Wanted, Old, Number, Made, Power, Shift, Update, Interned, wanted}
use Rattle.model_prims.specs.Applied.{Applied, Stop, Large, Gives, Stops, number_or, updated_by, number_then, beside, bounded, guarded, applied_to}
use Rattle.model_prims.specs.Applied.{Symbols as NoRoom}
use Rattle.model_prims.proofs.Known.{WantedSymbols}
use Rattle.model_prims.specs.Laws.{GivesKnown}
use Rattle.model_prims.proofs.KnownLemmas.{wanted_known, updated_known}
use Rattle.model_prims.specs.declared.prim.Prim.{Prim}

-- the symbols of the value are known then
abbrev HasKnown : Applied → Type 0
HasKnown (Gives o symbols) = Knows (length symbols) o
HasKnown (Stops s) = Unit {0}

number_known : (ss : List QualifiedName) (r : Option ℤ) → HasKnown (number_or ss r)
number_known ss (Some n) = tt
number_known ss None = tt

if_given : (b : Bool) (ss : List QualifiedName) (o : Object ℕ) (s : Stop) → Knows (length ss) o → HasKnown (if b then Gives o ss else Stops s)
if_given true ss o s k = k
if_given false ss o s k = tt

updated_given : (b : Bool) (ss : List QualifiedName) (n : ℕ) (o l : Object ℕ) → nil < length ss → Knows (length ss) o → Knows (length ss) l → HasKnown (updated_by b ss n o l)
updated_given true ss n o l t k m = if_given (nat_le (weight (updated by_number n o l)) max_weight) ss (updated by_number n o l) Large (updated_known (λ s. s < length ss) (omega arith) t n o l k m)
updated_given false ss n o l t k m = tt

within_of : (us : List QualifiedName) (q : QualifiedName) (n : ℕ) → number_of us q ≡ Some n → unwrap_or (number_of us q) 0 < length us
within_of us q n e = subst (λ o. unwrap_or o 0 < length us) (sym e) (number_within us q n e)

number_then-within : (ss : List QualifiedName) (q : QualifiedName) → number_then ss q < length (interned ss q)
number_then-within ss q = go (number_of ss q) refl
  where
    go : (r : Option ℕ) → number_of ss q ≡ r → number_then ss q < length (interned ss q)
    go (Some n) e = subst (λ us. unwrap_or (number_of us q) 0 < length us) (sym (interned-known ss q n e)) (within_of ss q n e)
    go None e = subst (λ us. unwrap_or (number_of us q) 0 < length us) (sym (interned-new ss q e)) (within_of (ss ++ q ∷ []) q (length ss) (number-push_same ss q e))

interned_given : (b : Bool) (ss : List QualifiedName) (q : QualifiedName) → HasKnown (if b then Stops NoRoom else Gives (Symbol (number_then ss q)) (interned ss q))
interned_given true ss q = tt
interned_given false ss q = number_then-within ss q

bounded_given : (t : Table) (w : Wanted ℕ) → nil < length t.symbols → WantedSymbols (λ s. s < length t.symbols) w → HasKnown (bounded t w)
unfolding bounded
bounded_given t (Old o) l k = k
bounded_given t (Number n) l k = number_known t.symbols (in_range n)
bounded_given t (Made o) l k = if_given (nat_le (weight o) max_weight) t.symbols o Large k
bounded_given t (Power b n) l k = number_known t.symbols (power_in_range b n)
bounded_given t (Shift i c) l k = number_known t.symbols (shift_in_range i c)
bounded_given t (Update n o x) l k = updated_given (nat_le n max_weight) t.symbols n o x l k.0 k.1
bounded_given t (Interned name s) l k = interned_given (is_one_too_many t.symbols (beside t name s)) t.symbols (beside t name s)

guarded_given : (b : Bool) (t : Table) (w : Wanted ℕ) → nil < length t.symbols → WantedSymbols (λ s. s < length t.symbols) w → HasKnown (guarded b t w)
guarded_given true t w l k = bounded_given t w l k
guarded_given false t w l k = tt

applied_given : (t : Table) (p : Prim) (x y z : Object ℕ) → nil < length t.symbols
    → Knows (length t.symbols) x → Knows (length t.symbols) y → Knows (length t.symbols) z → HasKnown (applied_to t p x y z)
unfolding applied_to
applied_given t p x y z l i j k =
    guarded_given (guard by_number p x y z) t (wanted by_number (symbol_at t.symbols) p x y z) l
    (wanted_known (λ s. s < length t.symbols) (omega arith) l (symbol_at t.symbols) p x y z i j k)

pub gives_known : GivesKnown
gives_known = record { known = λ t p x y z o symbols l i j k e. subst HasKnown e (applied_given t p x y z l i j k) }
