-- What a function does to memory by itself and what it leaves to the functions that it calls, read off the code that runs (its MIR).
-- A slice that a function only lends on changes in its calls alone, and what those do is in their contracts.
use Rattle.std.specs.Prelude.{ℕ, zero, suc, Bool, true, false, not, ◌&&◌, ◌||◌, ◌≡◌, List, [], ◌∷◌, ◌++◌, eqb}
use lib.Text.{eqt}
use mir.Syntax.{Ty, ty_int, ty_bool, ty_float, ty_ptr, ty_ref, ty_array, ty_unit, ty_struct, ty_enum, ty_param, ty_const, ty_array_p, ty_named, Tys, tnil, tcons, Tyss, ttnil, ttcons, Local, local}
use mir.Syntax.{Step, deref, field, variant, Place, place, Opd, copy, int, int_neg, int_big, float, opd_true, opd_false, opd_unit, ptr_const, size_of, align_of, num_of, fn_addr, vtable}
use mir.Syntax.{Rv, rv_opd, op2, op1, addr_of, aggregate, repeat, repeat_p, select}
use mir.Syntax.{Symbol, Callee, fn, method, forked, awaited, prim, impl, given, Fn, Body, skip, seq, assign, block, loop, cond, switch, exit, return, call, unreachable, call_v, lend_static, Arms, arm, default, no_default}

-- ── its own arrays: the locals that are one or have one in them; what a reference points to is not its own
-- a type that is an array or has one in it; of a type that is only named, or is a parameter, nothing is known
unfoldable mutual
  pub has_array : Ty → Bool
  has_array (ty_int w) = false
  has_array ty_bool = false
  has_array (ty_float f) = false
  has_array ty_ptr = false
  has_array (ty_ref κ μ t) = false
  has_array (ty_array t n) = true
  has_array ty_unit = false
  has_array (ty_struct s ts) = any_array ts
  has_array (ty_enum s vs) = any_variant vs
  has_array (ty_param n) = true
  has_array (ty_const n) = true
  has_array (ty_array_p t n) = true
  has_array (ty_named h ts) = true

  pub any_array : Tys → Bool
  any_array tnil = false
  any_array (tcons t ts) = has_array t || any_array ts

  pub any_variant : Tyss → Bool
  any_variant ttnil = false
  any_variant (ttcons ts vs) = any_array ts || any_variant vs

-- the type, if so
unfoldable pub only_if : Bool → Ty → List Ty
only_if true t = t ∷ []
only_if false t = []

-- the types of its own arrays, in the order of its locals
unfoldable pub own_arrays : List Local → List Ty
unfolding has_array only_if
own_arrays [] = []
own_arrays (local t h ∷ ls) = only_if (has_array t) t ++ own_arrays ls

-- ── the places that operands and values read, and those whose address is taken, which is no access
-- what an operand reads
unfoldable pub read : Opd → List Place
read (copy p) = p ∷ []
read (int w n) = []
read (int_neg w n) = []
read (int_big w n) = []
read (float f n) = []
read opd_true = []
read opd_false = []
read opd_unit = []
read (ptr_const n) = []
read (size_of t) = []
read (align_of t) = []
read (num_of w t) = []
read (fn_addr f s) = []
read (vtable t s) = []

-- what several read
unfoldable pub all_read : List Opd → List Place
unfolding read
all_read [] = []
all_read (o ∷ os) = read o ++ all_read os

-- what a value reads
unfoldable pub read_by : Rv → List Place
unfolding all_read
read_by (rv_opd o) = read o
read_by (op2 f a b) = read a ++ read b
read_by (op1 f a) = read a
read_by (addr_of p) = []
read_by (aggregate os) = all_read os
read_by (repeat o n) = read o
read_by (repeat_p o n) = read o
read_by (select a b c) = read a ++ (read b ++ read c)

-- what a value is the address of
unfoldable pub lent_by : Rv → List Place
lent_by (rv_opd o) = []
lent_by (op2 f a b) = []
lent_by (op1 f a) = []
lent_by (addr_of p) = p ∷ []
lent_by (aggregate os) = []
lent_by (repeat o n) = []
lent_by (repeat_p o n) = []
lent_by (select a b c) = []

-- ── its own reads and stores behind a pointer or a reference: an element of a slice or of an array
-- these steps go through one
unfoldable pub behind : List Step → Bool
behind [] = false
behind (deref t ∷ s) = true
behind (field n ∷ s) = behind s
behind (variant n ∷ s) = behind s

-- one of the places is behind one
unfoldable pub any_behind : List Place → Bool
unfolding behind
any_behind [] = false
any_behind (place n s ∷ ps) = behind s || any_behind ps

-- ── the functions that a call may name
-- the symbol at a place of a list; past its end the empty one, which no function has
unfoldable pub symbol_at : List Symbol → ℕ → Symbol
symbol_at [] n = ""
symbol_at (s ∷ ss) zero = s
symbol_at (s ∷ ss) (suc n) = symbol_at ss n

-- the function that a call runs: by its symbol, or the method of an impl; the empty symbol where the code alone does not say which function it is
unfoldable pub called : Callee → Symbol
unfolding symbol_at
called (fn s ts) = s
called (method (impl ss ts ds) n us) = symbol_at ss n
called (method (given k) n us) = ""
called (forked ts c) = called c
called (awaited ts) = ""
called (prim a) = ""

-- ── the code as a list of what it does, in the order of its text: a value is stored, an operand decides which way to go, a loop begins, a function is called
pub data Act : Type 0 where
  stores : Place → Rv → Act
  decides : Opd → Act
  turns : Act
  makes : Symbol → List Opd → Place → Act

unfoldable mutual
  pub acts : Body → List Act
  acts skip = []
  acts (seq a b) = acts a ++ acts b
  acts (assign p v) = stores p v ∷ []
  acts (block a) = acts a
  acts (loop a) = turns ∷ acts a
  acts (cond o a b) = decides o ∷ (acts a ++ acts b)
  acts (switch o arms) = decides o ∷ arm_acts arms
  acts (exit n) = []
  acts return = []
  acts (call f os p) = makes (called f) os p ∷ []
  acts unreachable = []
  acts (call_v f s os p) = makes "" (f ∷ os) p ∷ []
  acts (lend_static p t c) = stores p (rv_opd opd_unit) ∷ []

  pub arm_acts : Arms → List Act
  arm_acts (arm ks a arms) = acts a ++ arm_acts arms
  arm_acts (default a) = acts a
  arm_acts no_default = []

-- it reads or stores at a place behind a pointer or a reference
unfoldable pub touches : List Act → Bool
unfolding any_behind read_by
touches [] = false
touches (stores p v ∷ rest) = any_behind (p ∷ read_by v) || touches rest
touches (decides o ∷ rest) = any_behind (read o) || touches rest
touches (turns ∷ rest) = touches rest
touches (makes f os p ∷ rest) = any_behind (p ∷ all_read os) || touches rest

-- the functions that it calls
unfoldable pub calls : List Act → List Symbol
calls [] = []
calls (stores p v ∷ rest) = calls rest
calls (decides o ∷ rest) = calls rest
calls (turns ∷ rest) = calls rest
calls (makes f os p ∷ rest) = f ∷ calls rest

-- its loops
unfoldable pub loops : List Act → ℕ
loops [] = 0
loops (stores p v ∷ rest) = loops rest
loops (decides o ∷ rest) = loops rest
loops (turns ∷ rest) = suc (loops rest)
loops (makes f os p ∷ rest) = loops rest

-- A FUNCTION THAT ONLY LENDS ON: it has these arrays of its own, by itself it reads and stores nothing behind a reference, and it has so many loops and these calls
abbrev pub LendsOn : Fn → List Ty → ℕ → List Symbol → Type 0
LendsOn f arrays turned names = ◌≡◌ {A = List Ty × Bool × ℕ × List Symbol} (own_arrays f.locals, touches (acts f.body), loops (acts f.body), calls (acts f.body))
    (arrays, false, turned, names)

-- ── a local that goes from call to call: c is the local's number
-- it is among these places, as a whole
unfoldable pub is_whole : ℕ → List Place → Bool
is_whole c [] = false
is_whole c (place n [] ∷ ps) = eqb n c || is_whole c ps
is_whole c (place n (x ∷ s) ∷ ps) = is_whole c ps

-- it, or a part of it, is among these places
unfoldable pub is_in : ℕ → List Place → Bool
is_in c [] = false
is_in c (place n s ∷ ps) = eqb n c || is_in c ps

-- a function is one of these
unfoldable pub is_among : List Symbol → Symbol → Bool
is_among [] f = false
is_among (n ∷ ns) f = eqt n f || is_among ns f

-- a call of one of these functions takes it whole and leaves its answer in it; no other call changes it
unfoldable pub in_turn : Bool → Bool → Bool → Bool
in_turn true taken left = taken && left
in_turn false taken left = not left

-- the code changes it by calls of these functions alone, each of which takes it whole, and its address is not taken
unfoldable pub only_by : List Symbol → ℕ → List Act → Bool
unfolding is_whole is_in is_among in_turn all_read lent_by
only_by ns c [] = true
only_by ns c (stores p v ∷ rest) = not (is_in c (p ∷ lent_by v)) && only_by ns c rest
only_by ns c (decides o ∷ rest) = only_by ns c rest
only_by ns c (turns ∷ rest) = only_by ns c rest
only_by ns c (makes f os p ∷ rest) = in_turn (is_among ns f) (is_whole c (all_read os)) (is_in c (p ∷ [])) && only_by ns c rest

-- ONE AFTER ANOTHER: the local c begins as the parameter `from`, and then it is what one call of these functions leaves and the next one takes; nothing else changes it
pub record Threads (f : Fn) (from c : ℕ) (names : List Symbol) : Type 0 where
  pub rest : List Act
  pub begins : acts f.body ≡ stores (place c []) (rv_opd (copy (place from []))) ∷ rest
  pub goes_on : only_by names c rest ≡ true
