-- The kinds of settings: of what type the values of each are, and what a value of the file is read as; and before them the settings
-- that are lists: thresholds, backends, the entries of `histogram`, `repeater` and `nodes`, and the classes of timers' lines. The
-- setting that chooses these has its name from StatsD (exampleConfig.js); the names that it lists are of this project.
use Rattle.std.specs.{Prelude.{ℕ, ◌+◌, ◌^◌, ◌==◌, ◌&&◌, ◌||◌, Bool, true, false, not, nat_le, if◌then◌else◌, ℤ, pos, unsigned_abs, int_lt, int_le, List, [], ◌∷◌, ◌++◌, codes, Result, Ok, Err, length, map, ◌*◌}, List.{list_any, list_all}, Str.{bytes_eq}, Ordering.{int_eq}}
use Rattle.toml.specs.Data.{Data, string, array, Items, no_items, item, Members, get_member}
use Rattle.sd_model_outside.specs.Backend.{backends, backend_name}
use Rattle.sd_model_text.specs.Numbers.{Limit, Below, Infinite, ascends}
use Rattle.sd_model_settings.specs.Values.{ValueFlaw, OtherKind, both, mapped, ranged, whole_read, text, is_host, is_name_text, decimal, each, are_at_most, listed, one_or_list, are_distinct, entry, required, optional, flag, is_filled_prefix}

-- at most 16 thresholds, in a list or one alone
abbrev pub thresholds : Data → Result (List ℤ) ValueFlaw
thresholds d = ranged (λ xs. list_all (λ z. nat_le (unsigned_abs z) 100000000 && not (unsigned_abs z == 0)) xs && are_distinct int_eq xs) (ranged (are_at_most 16) (each decimal (one_or_list d)))

-- the name of a backend, or of the repeater
abbrev pub is_backend : List ℕ → Bool
is_backend s = list_any (bytes_eq s) (map backend_name backends ++ codes "repeater" ∷ [])

-- The bins of the timers whose names have a part.
pub record Classes : Type 0 where
  pub metric : List ℕ
  pub limits : List Limit

-- the string `inf`
abbrev pub is_inf : Data → Bool
is_inf (string s) = bytes_eq s (codes "inf")
is_inf _ = false

-- `inf` is before another item
abbrev pub has_early_inf : Items → Bool
has_early_inf no_items = false
has_early_inf (item d no_items) = false
has_early_inf (item d (item e ds)) = is_inf d || has_early_inf (item e ds)

-- a limit above 0 and at most 10^10
abbrev pub is_limit : Limit → Bool
is_limit (Below z) = int_lt (pos 0) z && int_le z (pos (10 ^ 16))
is_limit Infinite = true

abbrev pub bins_read : Data → Result (List Limit) ValueFlaw
bins_read (array ds) = if has_early_inf ds then Err OtherKind else ranged (λ limits. list_all is_limit limits && ascends limits) (ranged (are_at_most 64) (each (λ d. if is_inf d then Ok Infinite else mapped Below (decimal d)) ds))
bins_read _ = Err OtherKind

-- an entry of `histogram`: a table with `metric` and `bins`
abbrev pub classes : Data → Result Classes ValueFlaw
classes = entry (λ ms. mapped (λ p. record { metric = p.0; limits = p.1 })
    (both (required (text (is_name_text 255)) (get_member (codes "metric") ms)) (required bins_read (get_member (codes "bins") ms))))

-- the host and the port of an entry
abbrev pub host_and_port : Members → Result (List ℕ × ℕ) ValueFlaw
host_and_port ms = both (required (text is_host) (get_member (codes "host") ms)) (required (whole_read 1 65535) (get_member (codes "port") ms))

-- Where packets are repeated to.
pub record Target : Type 0 where
  pub host : List ℕ
  pub port : ℕ

-- A server behind the proxy, with the port at which it answers about itself.
pub record Node : Type 0 where
  pub host : List ℕ
  pub port : ℕ
  pub adminport : ℕ

-- an entry of `nodes`: a table with `host`, `port` and, by default 8126, `adminport`
abbrev pub node : Data → Result Node ValueFlaw
node = entry (λ ms. mapped (λ p. record { host = p.0.0; port = p.0.1; adminport = p.1 })
    (both (host_and_port ms) (optional (whole_read 1 65535) 8126 (get_member (codes "adminport") ms))))

-- A class of lines: one of the statistics of all values, all bins, or one of the statistics of the parts of thresholds.
pub data TimerClass : Type 0 where
  Std Upper Lower Count CountPs Sum SumSquares Mean Median Histogram CountPercent MeanPercent UpperPercent LowerPercent SumPercent SumSquaresPercent : TimerClass

-- the name of a class
abbrev pub class_name : TimerClass → List ℕ
class_name Std = codes "std"
class_name Upper = codes "upper"
class_name Lower = codes "lower"
class_name Count = codes "count"
class_name CountPs = codes "count_ps"
class_name Sum = codes "sum"
class_name SumSquares = codes "sum_squares"
class_name Mean = codes "mean"
class_name Median = codes "median"
class_name Histogram = codes "histogram"
class_name CountPercent = codes "count_percent"
class_name MeanPercent = codes "mean_percent"
class_name UpperPercent = codes "upper_percent"
class_name LowerPercent = codes "lower_percent"
class_name SumPercent = codes "sum_percent"
class_name SumSquaresPercent = codes "sum_squares_percent"

-- all classes
abbrev pub timer_classes : List TimerClass
timer_classes =
    Std ∷ Upper ∷ Lower ∷ Count ∷ CountPs ∷ Sum ∷ SumSquares ∷ Mean ∷ Median ∷ Histogram ∷ CountPercent ∷ MeanPercent
    ∷ UpperPercent ∷ LowerPercent ∷ SumPercent ∷ SumSquaresPercent ∷ []

-- the name of a class
abbrev pub is_class_name : List ℕ → Bool
is_class_name s = list_any (bytes_eq s) (map class_name timer_classes)

-- whether the lines of a class are sent: where its name is among those chosen, and where none is chosen
abbrev pub sends : List (List ℕ) → TimerClass → Bool
sends [] c = true
sends (name ∷ names) c = list_any (bytes_eq (class_name c)) (name ∷ names)

-- What is set: a number from least to most, or one whose product with an earlier number is at most `all` besides; whether something
-- is so; the text of a prefix, of one that isn't empty, or of a host; or a list.
pub data SettingKind : Type 0 where
  Whole : (least most : ℕ) → SettingKind
  Share : (least most all earlier : ℕ) → SettingKind
  Flag Prefix FilledPrefix Host Thresholds Backends ClassNames Histograms Targets Nodes : SettingKind

-- the type of a kind's values
abbrev pub Value : SettingKind → Type 0
Value (Whole least most) = ℕ
Value (Share least most all earlier) = ℕ
Value Flag = Bool
Value Prefix = List ℕ
Value FilledPrefix = List ℕ
Value Host = List ℕ
Value Thresholds = List ℤ
Value Backends = List (List ℕ)
Value ClassNames = List (List ℕ)
Value Histograms = List Classes
Value Targets = List Target
Value Nodes = List Node

-- what a value of the file is as one of a kind
abbrev pub read_as : (kind : SettingKind) → Data → Result (Value kind) ValueFlaw
read_as (Whole least most) d = whole_read least most d
read_as (Share least most all earlier) d = ranged (λ n. nat_le (earlier * n) all) (whole_read least most d)
read_as Flag d = flag d
read_as Prefix d = text (is_name_text 64) d
read_as FilledPrefix d = text is_filled_prefix d
read_as Host d = text is_host d
read_as Thresholds d = thresholds d
read_as Backends d = ranged (are_distinct bytes_eq) (listed (length backends + 1) (text is_backend) d)
read_as ClassNames d = ranged (are_distinct bytes_eq) (listed 16 (text is_class_name) d)
read_as Histograms d = listed 16 classes d
read_as Targets d = listed 16 (entry (λ ms. mapped (λ p. record { host = p.0; port = p.1 }) (host_and_port ms))) d
read_as Nodes d = listed 64 node d
