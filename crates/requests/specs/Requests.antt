-- Layout calls as numbers, eight a call: its kind, its width, and three ranges of two lent pools. With a second recording these are its data, entry numbers and text;
-- of a replacement the numbers are the records, four each, and the data their text; of tabs the width is the columns between stops.
use Rattle.std.specs.Prelude.{ℕ, zero, suc, Bool, true, false, cond, ◌&&◌, List, [], ◌∷◌, leb, eqb, drop, get_or}
use Rattle.buffer.specs.Place.{part}
use Rattle.recording.specs.Recording.{Bytes, Recording, recording}
use Rattle.recording.specs.Outcome.{Room}
use Rattle.layout.specs.Layout.{Job, truncate_start, truncate_end, pad_start, pad_end, pad_centered, indent, unindent, wrap, replace, expand_tabs, Call}
use Rattle.replace.specs.Records.{records_of}
use Rattle.requests.specs.declared.Request.{Request}

-- the eight numbers at the front of ns
unfoldable pub request_in : List ℕ → Request
request_in ns =
    record {
      kind = get_or ns 0 0;
      width = get_or ns 1 0;
      from = get_or ns 2 0;
      to = get_or ns 3 0;
      first = get_or ns 4 0;
      last = get_or ns 5 0;
      start = get_or ns 6 0;
      end = get_or ns 7 0;
    }

-- the first n calls of ns
abbrev pub requests_of : ℕ → List ℕ → List Request
requests_of zero ns = []
requests_of (suc n) ns = request_in ns ∷ requests_of n (drop 8 ns)

-- ── which calls they are
-- the call of a kind, with its width and its ranges: every number is one of them, wrap without and with breaking
unfoldable pub job_of : ℕ → ℕ → Recording → Job
job_of k n q =
    cond (eqb k 0) (truncate_start n q)
    (cond (eqb k 1) (truncate_end n q)
    (cond (eqb k 2) (pad_start n q)
    (cond (eqb k 3) (pad_end n q)
    (cond (eqb k 4) (pad_centered n q)
    (cond (eqb k 5) (indent q)
    (cond (eqb k 6) (wrap n false)
    (cond (eqb k 7) (wrap n true)
    (cond (eqb k 8) (replace (records_of q.entry_numbers) q.data_bytes)
    (cond (eqb k 9) (expand_tabs n) (unindent q))))))))))

-- its ranges of a pool of bytes and of a pool of numbers
abbrev pub ranges_of : Bytes → List ℕ → Request → Recording
ranges_of ps ns x = recording (part x.from x.to ps) (part x.first x.last ns) (part x.start x.end ps)

-- the call that eight numbers ask for
unfoldable pub job_in : Bytes → List ℕ → Request → Job
job_in ps ns x = job_of x.kind x.width (ranges_of ps ns x)

-- all of them
abbrev pub jobs_in : Bytes → List ℕ → List Request → List Job
jobs_in ps ns [] = []
jobs_in ps ns (x ∷ xs) = job_in ps ns x ∷ jobs_in ps ns xs

-- in buffers of the same lengths
abbrev pub calls_in : Room → List Job → List Call
calls_in o [] = []
calls_in o (j ∷ js) = record { job = j; room = o } ∷ calls_in o js

-- ── whether they are calls
-- a range of n that runs forwards
abbrev pub range_fits_in : ℕ → ℕ → ℕ → Bool
range_fits_in n a b = leb a b && leb b n

-- the largest kind
abbrev pub last_kind : ℕ
last_kind = 10

-- a known kind, and each range within its pool; p and q are the pools' lengths
unfoldable pub fits_in : ℕ → ℕ → Request → Bool
fits_in p q x =
    leb x.kind last_kind && (range_fits_in p x.from x.to && (range_fits_in q x.first x.last && range_fits_in p x.start x.end))

-- all of them fit
abbrev pub all_fit_in : ℕ → ℕ → List Request → Bool
all_fit_in p q [] = true
all_fit_in p q (x ∷ xs) = fits_in p q x && all_fit_in p q xs
