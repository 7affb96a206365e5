-- Arrays and hash fields: (defstobj st (a :type (array integer (4)) :initially 0)
-- (b :type (array (unsigned-byte 8) (0)) :initially 7 :resizable t) (h :type (hash-table eql))).
use Rattle.std.specs.Prelude.{ℕ, List, [], ◌∷◌, ◌++◌, true, false, None, negsuc, map}
use Rattle.acl_base.specs.declared.layout.Test.TheVariants.{Eql}
use Rattle.model_objects.specs.Object.{Object, Integer, Symbol, Text, list_onto}
use Rattle.model_symbols.specs.Opening.{nil, truth}
use Rattle.model_lists.specs.Lists.{StobjList, Pairs}
use Rattle.model_lists.specs.Types.{integer_word, unsigned_byte_word}
use Rattle.model_terms.specs.Cores.{Core, Var, Const, Let, MvLet, cores}
use Rattle.model_terms.specs.Worlds.{World, Ordinary}
use Rattle.model_terms.specs.Worlds as worlds
use Rattle.model_terms.specs.declared.role.Role.{Role}
use Rattle.model_terms.specs.declared.role.Role.TheVariants as role
use Rattle.model_eval.specs.Outcomes.{Plain, StobjNamed, Guard, Outcome}
use Rattle.model_eval_rows.specs.Books.{Row, number, symbol, int, quoted, call, always, items, numbers, primitives, function, generated, stobj, gives, stops}

abbrev pub st : ℕ
st = 196

abbrev pub ai : ℕ
ai = 197

abbrev pub update_ai : ℕ
update_ai = 198

abbrev pub bi : ℕ
bi = 199

abbrev update_bi : ℕ
update_bi = 200

abbrev pub b_length : ℕ
b_length = 201

abbrev resize_a : ℕ
resize_a = 202

abbrev pub resize_b : ℕ
resize_b = 203

abbrev pub h_get : ℕ
h_get = 204

abbrev pub h_boundp : ℕ
h_boundp = 205

abbrev pub h_get_bound : ℕ
h_get_bound = 206

abbrev pub h_put : ℕ
h_put = 207

abbrev pub h_rem : ℕ
h_rem = 208

abbrev pub h_count : ℕ
h_count = 209

abbrev pub h_clear : ℕ
h_clear = 210

abbrev pub ap : ℕ
ap = 211

abbrev pub bp : ℕ
bp = 212

abbrev pub stp : ℕ
stp = 213

abbrev write_all : ℕ
write_all = 214

abbrev x : ℕ
x = 215

abbrev pub k : ℕ
k = 216

abbrev found : ℕ
found = 217

-- `(unsigned-byte 8)`
abbrev byte_type : Object ℕ
byte_type = list_onto (Symbol unsigned_byte_word ∷ number 8 ∷ []) (Symbol nil)

-- a function that changes the stobj, of one more argument and of two, and one that reads it
abbrev writer : ℕ → ℕ → Role → worlds.Definition
writer name field what = generated name st field what (Ordinary ∷ worlds.Stobj st ∷ []) (worlds.Stobj st ∷ [])

abbrev writer_of_two : ℕ → ℕ → Role → worlds.Definition
writer_of_two name field what = generated name st field what (Ordinary ∷ Ordinary ∷ worlds.Stobj st ∷ []) (worlds.Stobj st ∷ [])

abbrev reader : ℕ → ℕ → Role → worlds.Definition
reader name field what = generated name st field what (Ordinary ∷ worlds.Stobj st ∷ []) (Ordinary ∷ [])

abbrev reader_of_none : ℕ → ℕ → Role → worlds.Definition
reader_of_none name field what = generated name st field what (worlds.Stobj st ∷ []) (Ordinary ∷ [])

abbrev update : ℕ → Core → Core
update i new = call update_ai (int i ∷ new ∷ Var st ∷ [])

abbrev then_st : Core → Core → Core
then_st first next = Let (st ∷ []) (cores (first ∷ [])) next

-- (let* ((st (update-ai 0 1 st)) (st (update-ai 1 2 st)) (st (update-ai 2 3 st))) (update-ai 3 'x st))
abbrev write_all_body : Core
write_all_body = then_st (update 0 (int 1)) (then_st (update 1 (int 2)) (then_st (update 2 (int 3)) (update 3 (quoted x))))

abbrev pub book : World
book =
    primitives
    ++ (stobj st
    (worlds.Array (Symbol integer_word) (number 0) 4 false ∷ worlds.Array byte_type (number 7) 0 true ∷ worlds.Hash Eql ∷ []) None st
    ∷ reader ai 0 role.Access
    ∷ writer_of_two update_ai 0 role.Update
    ∷ reader bi 1 role.Access
    ∷ writer_of_two update_bi 1 role.Update
    ∷ reader_of_none b_length 1 role.Length
    ∷ writer resize_a 0 role.Resize
    ∷ writer resize_b 1 role.Resize
    ∷ reader h_get 2 role.HashGet
    ∷ reader h_boundp 2 role.HashBoundp
    ∷ generated h_get_bound st 2 role.HashGetBound (Ordinary ∷ worlds.Stobj st ∷ []) (Ordinary ∷ Ordinary ∷ [])
    ∷ writer_of_two h_put 2 role.HashPut
    ∷ writer h_rem 2 role.HashRem
    ∷ reader_of_none h_count 2 role.HashCount
    ∷ generated h_clear st 2 role.HashClear (worlds.Stobj st ∷ []) (worlds.Stobj st ∷ [])
    ∷ generated ap st 0 role.FieldRecognizer (Ordinary ∷ []) (Ordinary ∷ [])
    ∷ generated bp st 1 role.FieldRecognizer (Ordinary ∷ []) (Ordinary ∷ [])
    ∷ generated stp st 0 role.Recognizer (worlds.Stobj st ∷ []) (Ordinary ∷ [])
    ∷ function write_all (st ∷ []) (worlds.Stobj st ∷ []) (worlds.Stobj st ∷ []) always write_all_body
    ∷ [])

-- the stobj with these arrays and pairs
abbrev listed : List ℕ → List ℕ → List (Object ℕ × Object ℕ) → StobjList ℕ
listed first second pairs = items (numbers first ∷ numbers second ∷ Pairs pairs ∷ [])

abbrev zeros : List ℕ
zeros = 0 ∷ 0 ∷ 0 ∷ 0 ∷ []

abbrev run : StobjList ℕ → Core → Outcome ℕ → Row
run before form answer = record { world = book; limit = 1000; depth = 100; stobjs = (st, before) ∷ []; form = form; answer = answer }

abbrev changes : StobjList ℕ → Core → StobjList ℕ → ℕ → Row
changes before form after calls = run before form (gives (StobjNamed st ∷ []) ((st, after) ∷ []) calls)

abbrev value : StobjList ℕ → Core → Object ℕ → Row
value before form o = run before form (gives (Plain o ∷ []) ((st, before) ∷ []) 1)

abbrev refuses : StobjList ℕ → ℕ → List (Object ℕ) → Row
refuses before f args =
    run before (call f (map Const args ++ Var st ∷ [])) (stops (Guard f (map Plain args ++ StobjNamed st ∷ [])) ((st, before) ∷ []) 1)

abbrev key : Object ℕ
key = symbol k

abbrev yes_value : Object ℕ
yes_value = symbol truth

abbrev no_value : Object ℕ
no_value = symbol nil

-- ---- arrays

unfoldable pub array_rows : List Row
array_rows =
    -- the updates before the one that is refused stay
    run (listed zeros [] []) (call write_all (Var st ∷ [])) (stops (Guard update_ai (Plain (number 3) ∷ Plain (symbol x) ∷ StobjNamed st ∷ [])) ((st, listed (1 ∷ 2 ∷ 3 ∷ 0 ∷ []) [] []) ∷ []) 5)
    ∷ value (listed (1 ∷ 2 ∷ 3 ∷ 0 ∷ []) [] []) (call ai (int 2 ∷ Var st ∷ [])) (number 3)
    -- an index is a natural number below the length
    ∷ refuses (listed zeros [] []) ai (number 4 ∷ [])
    ∷ refuses (listed zeros [] []) ai (Integer (negsuc 0) ∷ [])
    ∷ refuses (listed zeros [] []) update_ai (number 4 ∷ number 1 ∷ [])
    -- an element is of the type
    ∷ refuses (listed zeros (7 ∷ []) []) update_bi (number 0 ∷ number 256 ∷ [])
    ∷ changes (listed zeros (7 ∷ []) []) (call update_bi (int 0 ∷ int 255 ∷ Var st ∷ [])) (listed zeros (255 ∷ []) []) 1
    -- up, down and up again: what was cut off is gone
    ∷ changes (listed zeros [] []) (call resize_b (int 3 ∷ Var st ∷ [])) (listed zeros (7 ∷ 7 ∷ 7 ∷ []) []) 1
    ∷ changes (listed zeros [] [])
    (then_st (call resize_b (int 3 ∷ Var st ∷ [])) (then_st (call update_bi (int 2 ∷ int 9 ∷ Var st ∷ []))
    (then_st (call resize_b (int 1 ∷ Var st ∷ [])) (call resize_b (int 3 ∷ Var st ∷ [])))))
    (listed zeros (7 ∷ 7 ∷ 7 ∷ []) []) 4
    ∷ value (listed zeros (7 ∷ 7 ∷ 9 ∷ []) []) (call b_length (Var st ∷ [])) (number 3)
    ∷ changes (listed zeros (7 ∷ 7 ∷ 9 ∷ []) []) (call resize_b (int 0 ∷ Var st ∷ [])) (listed zeros [] []) 1
    -- what is not cut off stays
    ∷ changes (listed zeros (1 ∷ 2 ∷ []) []) (call resize_b (int 3 ∷ Var st ∷ [])) (listed zeros (1 ∷ 2 ∷ 7 ∷ []) []) 1
    ∷ changes (listed zeros (1 ∷ 2 ∷ 3 ∷ []) []) (call resize_b (int 2 ∷ Var st ∷ [])) (listed zeros (1 ∷ 2 ∷ []) []) 1
    -- too long, no natural number, and an array that is not resizable
    ∷ refuses (listed zeros [] []) resize_b (number 16777217 ∷ [])
    ∷ refuses (listed zeros [] []) resize_b (Integer (negsuc 0) ∷ [])
    ∷ refuses (listed zeros [] []) resize_b (symbol x ∷ [])
    ∷ refuses (listed zeros [] []) resize_a (number 4 ∷ [])
    -- the recognizer of a field tests no length; a stobj in scope is one
    ∷ value (listed zeros [] []) (call ap (Const (list_onto (number 5 ∷ number 300 ∷ []) no_value) ∷ [])) yes_value
    ∷ value (listed zeros [] []) (call bp (Const (list_onto (number 5 ∷ number 300 ∷ []) no_value) ∷ [])) no_value
    ∷ value (listed zeros [] []) (call ap (Const (list_onto (number 5 ∷ []) (number 6)) ∷ [])) no_value
    ∷ value (listed zeros [] []) (call stp (Var st ∷ [])) yes_value
    ∷ []

-- ---- hash fields

abbrev hashed : List (Object ℕ × Object ℕ) → StobjList ℕ
hashed pairs = listed zeros [] pairs

-- (h-put 'k 1 st) and then (h-put 'k 2 st) left both pairs
abbrev shadowed : StobjList ℕ
shadowed = hashed ((key, number 2) ∷ (key, number 1) ∷ [])

abbrev two_keys : StobjList ℕ
two_keys = hashed ((key, number 2) ∷ (number 5, symbol x) ∷ (key, number 1) ∷ [])

unfoldable pub hash_rows : List Row
hash_rows =
    changes (hashed []) (call h_put (quoted k ∷ int 1 ∷ Var st ∷ [])) (hashed ((key, number 1) ∷ [])) 1
    ∷ changes (hashed ((key, number 1) ∷ [])) (call h_put (quoted k ∷ int 2 ∷ Var st ∷ [])) shadowed 1
    ∷ value shadowed (call h_get (quoted k ∷ Var st ∷ [])) (number 2)
    ∷ value shadowed (call h_count (Var st ∷ [])) (number 1)
    ∷ value two_keys (call h_count (Var st ∷ [])) (number 2)
    -- all pairs of the key go
    ∷ changes shadowed (call h_rem (quoted k ∷ Var st ∷ [])) (hashed []) 1
    ∷ changes two_keys (call h_rem (quoted k ∷ Var st ∷ [])) (hashed ((number 5, symbol x) ∷ [])) 1
    ∷ value (hashed []) (call h_get (quoted k ∷ Var st ∷ [])) no_value
    ∷ value (hashed []) (call h_count (Var st ∷ [])) (number 0)
    ∷ changes two_keys (call h_clear (Var st ∷ [])) (hashed []) 1
    -- a key may be bound to NIL
    ∷ value (hashed ((key, no_value) ∷ [])) (call h_boundp (quoted k ∷ Var st ∷ [])) yes_value
    ∷ value (hashed ((key, no_value) ∷ [])) (call h_boundp (int 5 ∷ Var st ∷ [])) no_value
    ∷ run two_keys (call h_get_bound (int 5 ∷ Var st ∷ [])) (gives (Plain (symbol x) ∷ Plain yes_value ∷ []) ((st, two_keys) ∷ []) 1)
    ∷ run two_keys (MvLet (x ∷ found ∷ []) (call h_get_bound (int 6 ∷ Var st ∷ [])) (Var found)) (gives (Plain no_value ∷ []) ((st, two_keys) ∷ []) 1)
    -- a string is no key here
    ∷ refuses two_keys h_get (Text (107 ∷ []) ∷ [])
    ∷ refuses two_keys h_put (Text (107 ∷ []) ∷ number 1 ∷ [])
    ∷ []
