-- What is held only grows heavier, up to the whole form.
use Rattle.std.specs.Prelude.{◌≡◌, ℕ, ◌+◌, ◌≤◌, nat_lt, List, [], ◌∷◌, ◌++◌, length, Bool, true, false, Option, Some, None, if◌then◌else◌, refl}
use Rattle.std.proofs.Common.{ap, arith, subst}
use Rattle.model_objects.specs.Object.{weight}
use Rattle.model_text.specs.Token.{Form}
use Rattle.model_text.specs.Backquote.{Item, Plain, Made, Spliced, item_form, item_expansion, joined_onto, quoted_item, nil_form}
use Rattle.model_text.specs.Parts.{Part, Quoted, Backquoted, Unquoted, Splicing, Opened, Dotted, Ended, Put, Parts, Whole, Bad, most_parts, in_backquote, takes_element, full_dot, unless_full, delivered, opened, closed, dotted, put, put_all, after_put, Placed}
use Rattle.model_text.specs.Parts as parts
use Rattle.model_text.specs.declared.TextCause.TheVariants.{BadToken, CommaOutside, TooDeep}
use Rattle.acl_read_build.specs.declared.Refusal.{Refusal}
use Rattle.acl_read_build.specs.declared.Refusal.TheVariants.{TooLarge, Memory}
use Rattle.acl_read_build.specs.Slots.{items_weight, part_weight, parts_weight, put_weight, IsGood}
use Rattle.acl_read_build.specs.Building.{Refuses}
use Rattle.acl_read_build.proofs.ItemLemmas.{joined_weight}

items_push : (is : List Item) (i : Item) → items_weight (is ++ i ∷ []) ≡ items_weight is + weight (item_form i)
items_push [] i = omega arith
items_push (j ∷ is) i = omega (arith, items_push is i)

joined_onto_heavy : (is : List Item) (end : Item) → items_weight is + weight (item_form end) ≤ weight (item_form (joined_onto is end))
joined_onto_heavy [] end = omega arith
joined_onto_heavy (i ∷ is) end = omega (arith, joined_weight i (joined_onto is end), joined_onto_heavy is end)

quoted_heavy : (i : Item) → weight (item_form i) ≤ weight (item_form (quoted_item i))
quoted_heavy (Plain f) = omega arith
quoted_heavy (Made f) = omega arith
quoted_heavy (Spliced f) = omega arith

expansion_heavy : (i : Item) → weight (item_form i) ≤ weight (item_expansion i)
expansion_heavy (Plain f) = omega arith
expansion_heavy (Made f) = omega arith
expansion_heavy (Spliced f) = omega arith

delivered_weight : (i : Item) (ps : List Part) → IsGood (delivered i ps) → weight (item_form i) + parts_weight ps ≤ put_weight (delivered i ps)
delivered_weight i [] g = omega arith
delivered_weight i (Quoted ∷ ps) g = omega (arith, delivered_weight (quoted_item i) ps g, quoted_heavy i)
delivered_weight i (Backquoted ∷ ps) g = omega (arith, delivered_weight (Plain (item_expansion i)) ps g, expansion_heavy i)
delivered_weight i (Unquoted ∷ ps) g = omega (arith, delivered_weight (Made (item_form i)) ps g)
delivered_weight i (Splicing ∷ ps) g = omega (arith, delivered_weight (Spliced (item_form i)) ps g)
delivered_weight i (Opened is ∷ ps) g = omega (arith, items_push is i)
delivered_weight i (Dotted is d ∷ ps) g = omega arith
delivered_weight i (Ended is d j ∷ ps) g = absurd g

-- what is too heavy makes too heavy what it is put into
pub heavy : (i : Item) (ps : List Part) (e : Refusal) → IsGood (delivered i ps) → Refuses (weight (item_form i)) e → Refuses (put_weight (delivered i ps)) e
heavy i ps TooLarge g r = omega (arith, delivered_weight i ps g, r)
heavy i ps Memory g r = tt

-- ---- a part opens

opened_good : (p : Part) (at : ℕ) (ps : List Part) → IsGood (opened p at ps) → opened p at ps ≡ Parts (p ∷ ps)
opened_good p at ps g = go (nat_lt (length ps) most_parts) refl where
  go : (b : Bool) → nat_lt (length ps) most_parts ≡ b → opened p at ps ≡ Parts (p ∷ ps)
  go true e = ap (λ x. if x then Parts (p ∷ ps) else Bad TooDeep at) e
  go false e = absurd (subst (λ x. IsGood (if x then Parts (p ∷ ps) else Bad TooDeep at)) e g)

unless_good : (o : Option ℕ) (q r : Put) → (IsGood q → q ≡ r) → IsGood (unless_full o q) → unless_full o q ≡ r
unless_good None q r h g = h g
unless_good (Some d) q r h g = absurd g

if_good : (b : Bool) (q r : Put) → (IsGood q → q ≡ r) → (c : parts.Put) → (IsGood c → ⊥) → IsGood (if b then q else c) → (if b then q else c) ≡ r
if_good true q r h c n g = h g
if_good false q r h c n g = absurd (n g)

pub put_open : (at : ℕ) (ps : List Part) → IsGood (put parts.Open at ps) → put parts.Open at ps ≡ Parts (Opened [] ∷ ps)
put_open at ps g = unless_good (full_dot ps) (opened (Opened []) at ps) (Parts (Opened [] ∷ ps)) (opened_good (Opened []) at ps) g

pub put_quote : (at : ℕ) (ps : List Part) → IsGood (put parts.Quote at ps) → put parts.Quote at ps ≡ Parts (Quoted ∷ ps)
put_quote at ps g = unless_good (full_dot ps) (opened Quoted at ps) (Parts (Quoted ∷ ps)) (opened_good Quoted at ps) g

not_if : (b : Bool) (q r : Put) → (IsGood q → q ≡ r) → (c : parts.Put) → (IsGood c → ⊥) → IsGood (if b then c else q) → (if b then c else q) ≡ r
not_if true q r h c n g = absurd (n g)
not_if false q r h c n g = h g

pub put_backquote : (at : ℕ) (ps : List Part) → IsGood (put parts.Backquote at ps) → put parts.Backquote at ps ≡ Parts (Backquoted ∷ ps)
put_backquote at ps g =
    unless_good (full_dot ps) (if in_backquote ps then Bad BadToken at else opened Backquoted at ps) (Parts (Backquoted ∷ ps))
    (not_if (in_backquote ps) (opened Backquoted at ps) (Parts (Backquoted ∷ ps)) (opened_good Backquoted at ps) (Bad BadToken at) (λ x. x)) g

pub put_comma : (at : ℕ) (ps : List Part) → IsGood (put parts.Comma at ps) → put parts.Comma at ps ≡ Parts (Unquoted ∷ ps)
put_comma at ps g =
    unless_good (full_dot ps) (if in_backquote ps then opened Unquoted at ps else Bad CommaOutside at) (Parts (Unquoted ∷ ps))
    (if_good (in_backquote ps) (opened Unquoted at ps) (Parts (Unquoted ∷ ps)) (opened_good Unquoted at ps) (Bad CommaOutside at) (λ x. x)) g

pub put_comma_at : (at : ℕ) (ps : List Part) → IsGood (put parts.CommaAt at ps) → put parts.CommaAt at ps ≡ Parts (Splicing ∷ ps)
put_comma_at at ps g =
    unless_good (full_dot ps) (if in_backquote ps then (if takes_element ps then opened Splicing at ps else Bad CommaOutside at) else Bad CommaOutside at) (Parts (Splicing ∷ ps))
    (if_good (in_backquote ps) (if takes_element ps then opened Splicing at ps else Bad CommaOutside at) (Parts (Splicing ∷ ps))
    (if_good (takes_element ps) (opened Splicing at ps) (Parts (Splicing ∷ ps)) (opened_good Splicing at ps) (Bad CommaOutside at) (λ x. x)) (Bad CommaOutside at) (λ x. x)) g

-- ---- lexemes

same_weight : (q : Put) (p : Part) (ps : List Part) → part_weight p ≡ 0 → q ≡ Parts (p ∷ ps) → parts_weight ps ≤ put_weight q
same_weight q p ps z e = omega (arith, ap put_weight e, z)

put_weight_more : (l : parts.Lexeme) (at : ℕ) (ps : List Part) → IsGood (put l at ps) → parts_weight ps ≤ put_weight (put l at ps)
put_weight_more (parts.Atom f) at ps g = omega (arith, delivered_weight (Plain f) ps g)
put_weight_more parts.Open at ps g = same_weight (put parts.Open at ps) (Opened []) ps refl (put_open at ps g)
put_weight_more parts.Quote at ps g = same_weight (put parts.Quote at ps) Quoted ps refl (put_quote at ps g)
put_weight_more parts.Backquote at ps g = same_weight (put parts.Backquote at ps) Backquoted ps refl (put_backquote at ps g)
put_weight_more parts.Comma at ps g = same_weight (put parts.Comma at ps) Unquoted ps refl (put_comma at ps g)
put_weight_more parts.CommaAt at ps g = same_weight (put parts.CommaAt at ps) Splicing ps refl (put_comma_at at ps g)
put_weight_more parts.Close at [] g = absurd g
put_weight_more parts.Close at (Quoted ∷ ps) g = absurd g
put_weight_more parts.Close at (Backquoted ∷ ps) g = absurd g
put_weight_more parts.Close at (Unquoted ∷ ps) g = absurd g
put_weight_more parts.Close at (Splicing ∷ ps) g = absurd g
put_weight_more parts.Close at (Opened is ∷ ps) g = omega (arith, delivered_weight (joined_onto is (Plain nil_form)) ps g, joined_onto_heavy is (Plain nil_form))
put_weight_more parts.Close at (Dotted is d ∷ ps) g = absurd g
put_weight_more parts.Close at (Ended is d i ∷ ps) g = omega (arith, delivered_weight (joined_onto is i) ps g, joined_onto_heavy is i)
put_weight_more parts.Dot at [] g = absurd g
put_weight_more parts.Dot at (Quoted ∷ ps) g = absurd g
put_weight_more parts.Dot at (Backquoted ∷ ps) g = absurd g
put_weight_more parts.Dot at (Unquoted ∷ ps) g = absurd g
put_weight_more parts.Dot at (Splicing ∷ ps) g = absurd g
put_weight_more parts.Dot at (Opened [] ∷ ps) g = absurd g
put_weight_more parts.Dot at (Opened (i ∷ is) ∷ ps) g = omega arith
put_weight_more parts.Dot at (Dotted is d ∷ ps) g = absurd g
put_weight_more parts.Dot at (Ended is d i ∷ ps) g = absurd g

-- lexemes that make a form may stand
pub good_first : (q : Put) (ls : List Placed) (f : Form) → after_put q (λ qs. put_all qs ls) ≡ Whole f → IsGood q
good_first (Parts ps) ls f e = tt
good_first (Whole g) ls f e = tt
good_first (Bad c n) ls f e = cc

whole_step : (q : Put) (ps : List Part) (ls : List Placed) (f : Form) → ((qs : List Part) → put_all qs ls ≡ Whole f → parts_weight qs ≤ weight f) → (IsGood q → parts_weight ps ≤ put_weight q)
    → after_put q (λ qs. put_all qs ls) ≡ Whole f → parts_weight ps ≤ weight f
whole_step (Parts qs) ps ls f h more e = omega (arith, more tt, h qs e)
whole_step (Whole x) ps ls f h more e = omega (arith, more tt, ap put_weight e)
whole_step (Bad c n) ps ls f h more e = cc

whole_weight : (ps : List Part) (ls : List Placed) (f : Form) → put_all ps ls ≡ Whole f → parts_weight ps ≤ weight f
whole_weight ps [] f e = cc
whole_weight ps (l ∷ ls) f e = whole_step (put l.lexeme l.at ps) ps ls f (λ qs d. whole_weight qs ls f d) (put_weight_more l.lexeme l.at ps) e

-- what is too heavy on the way makes the form too heavy
pub heavy_form : (q : Put) (ls : List Placed) (f : Form) (e : Refusal) → after_put q (λ qs. put_all qs ls) ≡ Whole f → Refuses (put_weight q) e → Refuses (weight f) e
heavy_form q ls f Memory h r = tt
heavy_form (Parts qs) ls f TooLarge h r = omega (arith, whole_weight qs ls f h, r)
heavy_form (Whole x) ls f TooLarge h r = omega (arith, ap put_weight h, r)
heavy_form (Bad c n) ls f TooLarge h r = cc
