-- The program's words: `--steps N`, `--depth N`, `--pure` and `--generate N`, each at most once, in any order, a value as the
-- next word or after `=`.
use Rattle.std.specs.Prelude.{ℕ, List, [], ◌∷◌, length, Bool, true, false, ◌&&◌, ◌==◌, nat_le, Option, Some, None, codes, option_and_then, unwrap_or, if◌then◌else◌}
use Rattle.std.specs.Char.{is_ascii_digit}
use Rattle.std.specs.List.{list_all}
use Rattle.std.specs.Str.{bytes_eq}
use Rattle.std.specs.Str.Parse.{digits_value}
use Rattle.acl_base.specs.Limits.{most_steps, most_depth}
use Rattle.model_events.specs.Events.{Limits}

pub record Given : Type 0 where
  pub steps : Option ℕ
  pub depth : Option ℕ
  pub generate : Option ℕ
  pub is_pure : Bool

abbrev pub nothing_given : Given
nothing_given = record { steps = None; depth = None; generate = None; is_pure = false }

abbrev pub default_steps : ℕ
default_steps = 1000000

abbrev pub most_generated : ℕ
most_generated = 1000000

-- ---- numbers

abbrev pub in_range : ℕ → ℕ → Option ℕ
in_range most n = if nat_le 1 n && nat_le n most then Some n else None

-- one to eight decimal digits, from 1 to a bound
abbrev pub number_in : ℕ → List ℕ → Option ℕ
number_in most word =
    if nat_le 1 (length word) && (nat_le (length word) 8 && list_all is_ascii_digit word) then in_range most (digits_value 10 word) else None

-- ---- words

abbrev pub set_once : Option ℕ → Option ℕ → (Option ℕ → Given) → Option Given
set_once None (Some n) set = Some (set (Some n))
set_once None None set = None
set_once (Some m) value set = None

-- an option with its value
abbrev pub with_value : List ℕ → List ℕ → Given → Option Given
with_value name value g =
    if bytes_eq name (codes "--steps") then set_once g.steps (number_in most_steps value) (λ n. record g { steps = n })
    else if bytes_eq name (codes "--depth") then set_once g.depth (number_in most_depth value) (λ n. record g { depth = n })
    else if bytes_eq name (codes "--generate") then set_once g.generate (number_in most_generated value) (λ n. record g { generate = n })
    else None

-- what stands before the first `=`, and behind it where there is one
abbrev pub before_equals : List ℕ → List ℕ
before_equals [] = []
before_equals (b ∷ bs) = if b == 61 then [] else b ∷ before_equals bs

abbrev pub behind_equals : List ℕ → Option (List ℕ)
behind_equals [] = None
behind_equals (b ∷ bs) = if b == 61 then Some bs else behind_equals bs

abbrev pub given_then : Option Given → (Given → Option Given) → Option Given
given_then None go = None
given_then (Some g) go = go g

abbrev pub pure_once : Given → Option Given
pure_once g = if g.is_pure then None else Some (record g { is_pure = true })

-- a word by itself: `--pure`, or an option with its value behind `=`
abbrev pub single : List ℕ → Given → Option Given
single word g = by_value (behind_equals word) where
  by_value : Option (List ℕ) → Option Given
  by_value None = if bytes_eq word (codes "--pure") then pure_once g else None
  by_value (Some value) = with_value (before_equals word) value g

abbrev pub takes_next : List ℕ → Bool
takes_next word = if bytes_eq word (codes "--steps") then true else (if bytes_eq word (codes "--depth") then true else bytes_eq word (codes "--generate"))

-- what these words add to what was given
abbrev pub words_after : List (List ℕ) → Given → Option Given
words_after [] g = Some g
words_after (w ∷ []) g = single w g
words_after (w ∷ (v ∷ ws)) g =
    given_with (takes_next w) (λ h. words_after ws h) (λ h. words_after (v ∷ ws) h)
  where
    given_with : Bool → (Given → Option Given) → (Given → Option Given) → Option Given
    given_with true two one = given_then (with_value w v g) two
    given_with false two one = given_then (single w g) one

-- what the program's words give; None where they are not of the grammar
unfoldable pub given : List (List ℕ) → Option Given
given words = words_after words nothing_given

abbrev pub limits : Given → Limits
limits g = record { steps = unwrap_or g.steps default_steps; depth = unwrap_or g.depth most_depth }
