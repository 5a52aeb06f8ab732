-- How long the text of a result is, told by the entries of the recordings that it is made of (`shared_size` in numbers that code takes); and when another number settles a call as it would.
use Rattle.std.specs.Prelude.{ℕ, ◌+◌, ◌-◌, ◌*◌, ◌≤◌, ◌<◌, ◌≡◌, cond, ◌⊎◌, List, [], ◌∷◌, ◌++◌, eqb, length}
use Rattle.recording.specs.declared.Entry.{Entry}
use Rattle.recording.specs.Recording.{Bytes, part_of, pushed_in, new_text}
use Rattle.recording.specs.Refusals.{text_limit}

-- the raw sequence of an entry, and those of all
abbrev pub raw_in : Entry → ℕ
raw_in e = cond (eqb e.kind 2) e.len 0

abbrev pub raws_in : List Entry → ℕ
raws_in [] = 0
raws_in (e ∷ es) = raw_in e + raws_in es

-- what an entry's label brings that neither the entries `those`, with the text u, nor those before it in its own recording have
unfoldable pub label_in : Bytes → List Entry → Bytes → List Entry → Entry → ℕ
label_in u those t before e = cond (eqb e.kind 0) (cond (pushed_in (part_of t e) u those) 0 (length (new_text (part_of t e) t before))) 0

-- the labels of all entries, one behind another
abbrev pub labels_in : Bytes → List Entry → Bytes → List Entry → List Entry → ℕ
labels_in u those t before [] = 0
labels_in u those t before (e ∷ es) = label_in u those t before e + labels_in u those t (before ++ (e ∷ [])) es

-- what a text l brings that neither `those` nor the entries before have
unfoldable pub new_in : Bytes → List Entry → Bytes → List Entry → Bytes → ℕ
new_in u those t before l = cond (pushed_in l u those) 0 (length (new_text l t before))

-- two lists of entries before which bring the same for every text
unfoldable pub Alike : Bytes → List Entry → Bytes → List Entry → List Entry → Type 0
Alike u those t xs ys = (l : Bytes) → new_in u those t xs l ≡ new_in u those t ys l

-- the entries that brought a new text, with e if it brings one
unfoldable pub first_added_of : Bytes → List Entry → Bytes → List Entry → Entry → List Entry
first_added_of u those t xs e = cond (eqb (label_in u those t xs e) 0) xs (xs ++ (e ∷ []))

-- the entries xs serve for ys, unless the size passed the limit
unfoldable pub Serve : ℕ → Bytes → List Entry → Bytes → List Entry → List Entry → Type 0
Serve size u those t xs ys = size ≤ text_limit → Alike u those t xs ys

-- all of a content but raw sequences of `gone` bytes, and a second recording n times
unfoldable pub size_less : ℕ → Bytes → List Entry → Bytes → List Entry → ℕ → ℕ
size_less gone t es u fs n = ((raws_in es - gone) + n * raws_in fs) + (labels_in [] [] t [] es + cond (eqb n 0) 0 (labels_in t es u [] fs))

-- all of a content, and a second recording n times
unfoldable pub text_size_of : Bytes → List Entry → Bytes → List Entry → ℕ → ℕ
text_size_of t es u fs n = (raws_in es + n * raws_in fs) + (labels_in [] [] t [] es + cond (eqb n 0) 0 (labels_in t es u [] fs))

-- all of a content alone
abbrev pub own_size_of : Bytes → List Entry → ℕ
own_size_of t es = text_size_of t es [] [] 0

-- all of a content but raw sequences of `gone` bytes, alone
abbrev pub less_size_of : Bytes → List Entry → ℕ → ℕ
less_size_of t es gone = size_less gone t es [] [] 0

-- a count r of the size t which may stop above the limit
unfoldable pub Counts : ℕ → ℕ → Type 0
Counts t r = (r ≡ t) ⊎ ((text_limit < t) × (text_limit < r))

-- a size r that settles a call as t does: a count of t, or a larger size for which there is room
unfoldable pub Stands : ℕ → ℕ → ℕ → Type 0
unfolding Counts
Stands room t r = Counts t r ⊎ ((t ≤ r) × (r ≤ text_limit) × (r ≤ room))
