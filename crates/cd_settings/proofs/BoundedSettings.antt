-- Settings that are accepted are within the bounds.
use Rattle.cd_chain.specs.Chains.{number_of}
use Rattle.cd_chain.specs.Tables.{fault_of}
use Rattle.cd_chain.specs.declared.data.Chain.{Chain}
use Rattle.cd_chain.specs.declared.data.ChainFault.{ChainFault}
use Rattle.cd_conf.specs.Canonical.{items_text}
use Rattle.cd_conf.specs.Parts.{args_of, children_of, line_of}
use Rattle.cd_conf.specs.declared.item.Item.{Item}
use Rattle.cd_globals.specs.Globals.{default_globals}
use Rattle.cd_globals.specs.declared.Globals.{Globals}
use Rattle.cd_reading.specs.First.{◌>>=◌}
use Rattle.cd_settings.proofs.BoundedForms.{Within, address_within, anything, host_within, interval_within, whole_within}
use Rattle.cd_settings.proofs.LoadedPlugins.{block_keeps, given_where, load_keeps, none_keeps}
use Rattle.cd_settings.specs.Bounds.{AcceptedSettingsAreBounded, AreBounded, AreGlobals, AreLimits, AreListens, ArePlugins, IsInterval, IsWithin}
use Rattle.cd_settings.specs.ChainLines.{accepted, refused_for}
use Rattle.cd_settings.specs.ChainOptions.{chain_of, named}
use Rattle.cd_settings.specs.Faults.{at}
use Rattle.cd_settings.specs.Forms.{Form, address, host, interval, is_host, off, one, text, texts, whole}
use Rattle.cd_settings.specs.GlobalOptions.{global_options}
use Rattle.cd_settings.specs.PluginOptions.{childless, network_options, unixsock_options, with_listen}
use Rattle.cd_settings.specs.Settings.{configuration_of, finished, limit_of, lower_limit, settings}
use Rattle.cd_settings.specs.Tables.{Row, after_all, by_table, by_table_or, given, unknown}
use Rattle.cd_settings.specs.TopLevel.{beginning, chain_sections, is_among, plugin, start, top_options, with_block, with_chain, with_low, with_name, with_network, with_unixsock, within_globals, within_top}
use Rattle.cd_settings.specs.declared.configuration.Configuration.{Configuration}
use Rattle.cd_settings.specs.declared.fault.SettingsFault.{SettingsFault}
use Rattle.cd_settings.specs.declared.fault.SettingsKind.TheVariants.{LimitsCrossed, TooMany, UnknownOption}
use Rattle.cd_settings.specs.declared.plugins.Listen.{Listen}
use Rattle.cd_settings.specs.declared.plugins.Network.{Network}
use Rattle.cd_settings.specs.declared.plugins.TheConstants.{LISTENS_LIMIT}
use Rattle.cd_settings.specs.declared.top_level.Low.{Low}
use Rattle.cd_settings.specs.declared.top_level.TopLevel.{TopLevel}
use Rattle.std.proofs.Common.{Bool, Err, IfOk, IfSome, IsTrue, List, None, Ok, Option, Result, Some, [], arith, bytes_eq, codes, false, length, length-append, nat_lt, not, refl, true, ℕ, ◌&&◌, ◌++◌, ◌<◌, ◌∷◌, ◌≡◌, ◌≤◌}
use Rattle.std.proofs.lemmas.Grind.{common_steps}
use Rattle.std.proofs.lemmas.List.Elements.{All-push}
use Rattle.std.proofs.lemmas.List.Quantifiers.{position-Some}
use Rattle.std.specs.Prelude.{if◌then◌else◌}

-- a change keeps a property, unless it is a fault
abbrev Keeps : {S : Type 0} → (S → Type 0) → (S → Item → Result S SettingsFault) → Type 0
Keeps {S} P change = (s : S) (item : Item) → P s → IfOk (change s item) P

abbrev Keep : {S : Type 0} → (S → Type 0) → List (Row S) → Type 0
Keep P [] = Unit {0}
Keep P (row ∷ rows) = Keeps P row.change × Keep P rows

after : {A B : Type 0} (r : Result A SettingsFault) (f : A → Result B SettingsFault) (Q : A → Type 0) (P : B → Type 0) → IfOk r Q
    → ((x : A) → Q x → IfOk (f x) P) → IfOk (r >>= f) P
after (Ok x) f Q P h k = k x h
after (Err e) f Q P h k = tt

all_keep : {S : Type 0} (P : S → Type 0) (change : S → Item → Result S SettingsFault) → Keeps P change → (s : S) (items : List Item) → P s
    → IfOk (after_all change s items) P
unfolding after_all
all_keep P change k s [] h = h
all_keep P change k s (item ∷ items) h =
    after (change s item) (λ changed. after_all change changed items) P P (k s item h) (λ changed held. all_keep P change k changed items held)

by_test : {S : Type 0} (P : S → Type 0) (b : Bool) (here there : Result S SettingsFault) → IfOk here P → IfOk there P → IfOk (if b then here else there) P
by_test P true here there h t = h
by_test P false here there h t = t

table_keeps : {S : Type 0} (P : S → Type 0) (otherwise : S → Item → Result S SettingsFault) (rows : List (Row S)) → Keeps P otherwise → Keep P rows
    → Keeps P (by_table_or otherwise rows)
table_keeps P otherwise [] o k s item h = o s item h
table_keeps P otherwise (row ∷ rows) o k s item h =
    by_test P (row.is_for item) (row.change s item) (by_table_or otherwise rows s item) (k.0 s item h) (table_keeps P otherwise rows o k.1 s item h)

unknown_keeps : {S : Type 0} (P : S → Type 0) → Keeps P unknown
unknown_keeps P s item h = tt

given_keeps : {S A : Type 0} (P : S → Type 0) (B : A → Type 0) (item : Item) (v : Option A) (change : A → Item → Result S SettingsFault)
    → IfSome v B → ((x : A) → B x → IfOk (change x item) P) → IfOk (given item v change) P
given_keeps P B item None change h k = tt
given_keeps P B item (Some x) change h k = k x h

-- a row, by the values of its form
row_keeps : {S A : Type 0} (P : S → Type 0) (B : A → Type 0) (form : Form A) (change : S → A → Item → Result S SettingsFault) → Within B form
    → ((s : S) (x : A) (item : Item) → P s → B x → IfOk (change s x item) P) → Keeps P (λ s item. given item (form (args_of item)) (change s))
row_keeps P B form change w k s item h = given_keeps P B item (form (args_of item)) (change s) (w (args_of item)) (λ x b. k s x item h b)

option_keeps : {S A : Type 0} (P : S → Type 0) (B : A → Type 0) (form : Form A) (put : S → A → S) → Within B form
    → ((s : S) (x : A) → P s → B x → P (put s x)) → Keeps P (λ s item. given item (form (args_of item)) (λ x i. Ok (put s x)))
option_keeps P B form put w k = row_keeps P B form (λ s x i. Ok (put s x)) w (λ s x item h b. k s x h b)

-- a row whose values don't matter
free_keeps : {S A : Type 0} (P : S → Type 0) (form : Form A) (put : S → A → S) → ((s : S) (x : A) → P s → P (put s x))
    → Keeps P (λ s item. given item (form (args_of item)) (λ x i. Ok (put s x)))
free_keeps P form put k = option_keeps P (λ x. Unit {0}) form put (λ args. anything (form args)) (λ s x h b. k s x h)

anyway : {A : Type 0} (r : Result A SettingsFault) → IfOk r (λ x. Unit {0})
anyway (Ok x) = tt
anyway (Err e) = tt

-- ---- the options of the daemon

bounded_globals : (g : Globals) → IsTrue (is_host g.hostname) → IsInterval g.interval → IsInterval g.longest → IsWithin 1 1000 g.timeout
    → IsWithin 1 64 g.read_threads → IsWithin 1 64 g.write_threads → g.high ≤ 1000000 → AreGlobals g
bounded_globals g a b c d e f k = record { hostname = a; interval = b; longest = c; timeout = d; read_threads = e; write_threads = f; high = k }

globals_keep : Keeps AreGlobals (by_table global_options)
globals_keep = table_keeps AreGlobals unknown global_options (unknown_keeps AreGlobals) (
  option_keeps AreGlobals (λ x. IsTrue (is_host x)) host (λ g x. record g { hostname = x }) host_within
      (λ g x h b. bounded_globals (record g { hostname = x }) b h.interval h.longest h.timeout h.read_threads h.write_threads h.high),
  (
    option_keeps AreGlobals IsInterval interval (λ g x. record g { interval = x }) interval_within
        (λ g x h b. bounded_globals (record g { interval = x }) h.hostname b h.longest h.timeout h.read_threads h.write_threads h.high),
    (
      option_keeps AreGlobals IsInterval interval (λ g x. record g { longest = x }) interval_within
          (λ g x h b. bounded_globals (record g { longest = x }) h.hostname h.interval b h.timeout h.read_threads h.write_threads h.high),
      (
        option_keeps AreGlobals (IsWithin 1 1000) (whole 1 1000) (λ g x. record g { timeout = x }) (whole_within 1 1000)
            (λ g x h b. bounded_globals (record g { timeout = x }) h.hostname h.interval h.longest b h.read_threads h.write_threads h.high),
        (
          option_keeps AreGlobals (IsWithin 1 64) (whole 1 64) (λ g x. record g { read_threads = x }) (whole_within 1 64)
              (λ g x h b. bounded_globals (record g { read_threads = x }) h.hostname h.interval h.longest h.timeout b h.write_threads h.high),
          (
            option_keeps AreGlobals (IsWithin 1 64) (whole 1 64) (λ g x. record g { write_threads = x }) (whole_within 1 64)
                (λ g x h b. bounded_globals (record g { write_threads = x }) h.hostname h.interval h.longest h.timeout h.read_threads b h.high),
            (
              option_keeps AreGlobals (IsWithin 0 1000000) (whole 0 1000000) (λ g x. record g { high = x }) (whole_within 0 1000000)
                  (λ g x h b. bounded_globals (record g { high = x }) h.hostname h.interval h.longest h.timeout h.read_threads h.write_threads b.1),
              tt,
            ),
          ),
        ),
      ),
    ),
  ),
)

-- ---- network

abbrev HasListens : Network → Type 0
HasListens n = AreListens n.listens

listens_pushed : (listens : List Listen) (x : Listen) → AreListens listens → IsWithin 1 65535 x.port → length listens < LISTENS_LIMIT → AreListens (listens ++ x ∷ [])
listens_pushed listens x h b lt = record {
  few = omega (arith, length-append listens (x ∷ []));
  ports = All-push (λ listen. IsWithin 1 65535 listen.port) listens x h.ports b;
}

listen_keeps : (n : Network) (x : Listen) (item : Item) → HasListens n → IsWithin 1 65535 x.port → IfOk (with_listen n x item) HasListens
listen_keeps n x item h b = by (nat_lt (length n.listens) LISTENS_LIMIT) refl
  where
    by : (t : Bool) → nat_lt (length n.listens) LISTENS_LIMIT ≡ t
        → IfOk (if t then (childless (children_of item) >>= λ u. Ok (record n { listens = n.listens ++ x ∷ [] })) else Err (at TooMany item)) HasListens
    by true e =
        after (childless (children_of item)) (λ u. Ok (record n { listens = n.listens ++ x ∷ [] })) (λ u. Unit {0}) HasListens (anyway (childless (children_of item)))
        (λ u v. listens_pushed n.listens x h b (grind (arith, common_steps)))
    by false e = tt

network_keeps : Keeps HasListens (by_table network_options)
network_keeps = table_keeps HasListens unknown network_options (unknown_keeps HasListens) (
  row_keeps HasListens (λ listen. IsWithin 1 65535 listen.port) address with_listen address_within (λ n x item h b. listen_keeps n x item h b),
  (
    free_keeps HasListens (whole 1024 65535) (λ n x. n) (λ n x h. h),
    tt,
  ),
)

-- ---- the top level

record Held (t : TopLevel) : Type 0 where
  globals : AreGlobals t.globals
  low : IfSome t.low (λ low. low.count ≤ 1000000)
  listens : AreListens t.network.listens
  plugins : ArePlugins t.loaded t.blocks

held : (t : TopLevel) → AreGlobals t.globals → IfSome t.low (λ low. low.count ≤ 1000000) → AreListens t.network.listens → ArePlugins t.loaded t.blocks → Held t
held t a b c d = record { globals = a; low = b; listens = c; plugins = d }

unixsock_keeps : (t : TopLevel) (items : List Item) → Held t → IfOk (with_unixsock t items) Held
unixsock_keeps t items h =
    after (after_all (by_table unixsock_options) t.unixsock items) (λ u. Ok (record t { unixsock = u })) (λ u. Unit {0}) Held
    (anyway (after_all (by_table unixsock_options) t.unixsock items)) (λ u v. held (record t { unixsock = u }) h.globals h.low h.listens h.plugins)

listens_keep : (t : TopLevel) (items : List Item) → Held t → IfOk (with_network t items) Held
listens_keep t items h =
    after (after_all (by_table network_options) t.network items) (λ n. Ok (record t { network = n })) HasListens Held
    (all_keep HasListens (by_table network_options) network_keeps t.network items h.listens) (λ n b. held (record t { network = n }) h.globals h.low b h.plugins)

abbrev of_loaded : TopLevel → List ℕ → Item → Result TopLevel SettingsFault
of_loaded t name item =
    if bytes_eq name (codes "unixsock") then with_unixsock t (children_of item)
    else (if bytes_eq name (codes "network") then with_network t (children_of item)
    else (if bytes_eq name (codes "threshold") then Err (at UnknownOption item)
    else Ok (record t { blocks = with_block t.blocks name (items_text (children_of item)) })))

loaded_keeps : (t : TopLevel) (name : List ℕ) (item : Item) → IsTrue (is_among name t.loaded) → Held t → IfOk (of_loaded t name item) Held
loaded_keeps t name item l h =
    let blocks : TopLevel = record t { blocks = with_block t.blocks name (items_text (children_of item)) } in
    let unknown_one : Result TopLevel SettingsFault = Err (at UnknownOption item) in
    let other : Result TopLevel SettingsFault = if bytes_eq name (codes "threshold") then unknown_one else Ok blocks in
    let listening : Result TopLevel SettingsFault = if bytes_eq name (codes "network") then with_network t (children_of item) else other in
    by_test Held (bytes_eq name (codes "unixsock")) (with_unixsock t (children_of item)) listening (unixsock_keeps t (children_of item) h)
    (by_test Held (bytes_eq name (codes "network")) (with_network t (children_of item)) other (listens_keep t (children_of item) h)
    (by_test Held (bytes_eq name (codes "threshold")) unknown_one (Ok blocks) tt
    (held blocks h.globals h.low h.listens (block_keeps t.loaded t.blocks name (items_text (children_of item)) l h.plugins))))

plugin_keeps : (t : TopLevel) (name : List ℕ) (item : Item) → Held t → IfOk (plugin t name item) Held
plugin_keeps t name item h = by (is_among name t.loaded) refl
  where
    by : (b : Bool) → is_among name t.loaded ≡ b → IfOk (if not b then Ok t else of_loaded t name item) Held
    by true e = loaded_keeps t name item e h
    by false e = h

within_globals_keeps : Keeps Held within_globals
within_globals_keeps t item h =
    after (by_table global_options t.globals item) (λ g. Ok (record t { globals = g })) AreGlobals Held (globals_keep t.globals item h.globals)
    (λ g b. held (record t { globals = g }) b h.low h.listens h.plugins)

free : {A : Type 0} (form : Form A) → Keeps Held (λ s item. given item (form (args_of item)) (λ x i. Ok s))
free form = free_keeps Held form (λ t x. t) (λ t x h. h)

named_keeps : (put : TopLevel → List ℕ → TopLevel) → ((t : TopLevel) (x : List ℕ) → Held t → Held (put t x))
    → Keeps Held (λ s item. given item (text (args_of item)) (λ x i. Ok (put s x)))
named_keeps put k = free_keeps Held text put k

top_keeps : Keeps Held (by_table_or within_globals top_options)
top_keeps = table_keeps Held within_globals top_options within_globals_keeps (
  free_keeps Held text (λ t x. record t { loaded = with_name t.loaded x }) (λ t x h. held (record t { loaded = with_name t.loaded x }) h.globals h.low h.listens (load_keeps t.loaded t.blocks x h.plugins)),
  (
    row_keeps Held (IsWithin 0 1000000) (whole 0 1000000) with_low (whole_within 0 1000000)
        (λ t x item h b. held (record t { low = Some (record { count = x; line = line_of item }) }) h.globals b.1 h.listens h.plugins),
    (
      row_keeps Held (λ x. Unit {0}) text plugin (λ args. anything (text args)) (λ t x item h b. plugin_keeps t x item h),
      (free texts, (named_keeps (λ t x. record t { pre = x }) (λ t x h. held (record t { pre = x }) h.globals h.low h.listens h.plugins), (named_keeps (λ t x. record t { post = x }) (λ t x h. held (record t { post = x }) h.globals h.low h.listens h.plugins), (free one, (free one, (free one, (free one, (free off, (free off, tt))))))))),
    ),
  ),
)

start_holds : Held start
unfolding start
start_holds = held start
    (bounded_globals default_globals refl (omega arith, omega arith) (omega arith, omega arith) (omega arith, omega arith) (omega arith, omega arith) (omega arith, omega arith) (omega arith))
    tt (record { few = omega arith; ports = λ k d lt. absurd (omega arith) }) none_keeps

-- ---- the end

limits_hold : (high : ℕ) (o : Option Low) → high ≤ 1000000 → IfSome o (λ low. low.count ≤ 1000000) → IfOk (limit_of high o) (AreLimits high)
limits_hold high None most few = record { most = omega (arith, most); not_crossed = λ lt. omega arith }
limits_hold high (Some low) most few = by (nat_lt 0 high && nat_lt high low.count) refl
  where
    by : (b : Bool) → nat_lt 0 high && nat_lt high low.count ≡ b
        → IfOk {T = ℕ} {E = SettingsFault} (if b then Err (record { kind = LimitsCrossed; line = low.line }) else Ok low.count) (AreLimits high)
    by true e = tt
    by false e = record { most = few; not_crossed = λ lt. grind (arith, common_steps) }

number_within : (name : List ℕ) (chains : List Chain) → IfSome (number_of name chains) (λ number. number < length chains)
number_within name chains = by (number_of name chains) refl
  where
    by : (o : Option ℕ) → number_of name chains ≡ o → IfSome o (λ number. number < length chains)
    by None e = tt
    by (Some number) e = (position-Some (λ (chain : Chain). bytes_eq chain.name name) chains number (named []) e).0

accepted_holds : (items : List Item) (chains : List Chain) → IfOk (accepted items chains) (λ table. fault_of table ≡ None)
accepted_holds items chains = by (fault_of chains) refl
  where
    by : (o : Option ChainFault) → fault_of chains ≡ o → IfOk (refused_for items chains o) (λ table. fault_of table ≡ None)
    by None e = e
    by (Some why) e = tt

abbrev HeldAll : Configuration → Type 0
HeldAll c = Held c.top

chains_keep : (c : Configuration) (name : List ℕ) (item : Item) → HeldAll c → IfOk (with_chain c name item) HeldAll
chains_keep c name item h =
    after (chain_of name item) (λ chain. Ok (record c { chains = c.chains ++ chain ∷ [] })) (λ chain. Unit {0}) HeldAll (anyway (chain_of name item)) (λ chain u. h)

within_top_keeps : Keeps HeldAll within_top
within_top_keeps c item h =
    after (by_table_or within_globals top_options c.top item) (λ t. Ok (record c { top = t })) Held HeldAll (top_keeps c.top item h) (λ t b. b)

all_sections_keep : Keeps HeldAll (by_table_or within_top chain_sections)
all_sections_keep = table_keeps HeldAll within_top chain_sections within_top_keeps (
  row_keeps HeldAll (λ x. Unit {0}) text with_chain (λ args. anything (text args)) (λ c x item h b. chains_keep c x item h),
  tt,
)

settings_hold : (t : TopLevel) (low : ℕ) (chains : List Chain) → Held t → AreLimits t.globals.high low → fault_of chains ≡ None → AreBounded (settings t low chains)
settings_hold t low chains h b fine = record {
  globals = bounded_globals (settings t low chains).globals h.globals.hostname h.globals.interval h.globals.longest h.globals.timeout h.globals.read_threads h.globals.write_threads h.globals.high;
  limits = b;
  listens = h.listens;
  plugins = h.plugins;
  chains = fine;
  pre = number_within t.pre chains;
  post = number_within t.post chains;
  socket = given_where (is_among (codes "unixsock") t.loaded) t.unixsock.path;
}

finished_holds : (items : List Item) (c : Configuration) → HeldAll c → IfOk (finished items c) AreBounded
finished_holds items c h =
    after (lower_limit c.top) (λ low. accepted items c.chains >>= λ chains. Ok (settings c.top low chains)) (AreLimits c.top.globals.high) AreBounded
    (limits_hold c.top.globals.high c.top.low h.globals.high h.low)
    (λ low b. after (accepted items c.chains) (λ chains. Ok (settings c.top low chains)) (λ table. fault_of table ≡ None) AreBounded
    (accepted_holds items c.chains) (λ chains fine. settings_hold c.top low chains h b fine))

pub accepted_are_bounded : AcceptedSettingsAreBounded
accepted_are_bounded items =
    after (configuration_of items) (finished items) HeldAll AreBounded (all_keep HeldAll (by_table_or within_top chain_sections) all_sections_keep beginning items start_holds) (finished_holds items)
