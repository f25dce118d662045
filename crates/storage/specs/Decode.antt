-- The history that bytes stand for: each prefix number resolved to the entries of its prefix.
-- Assumes nothing.
use Rattle.std.specs.Prelude.{ℕ, cond, List, [], ◌∷◌, ◌++◌, map, eqb, get_or}
use Rattle.std.proofs.Math.Option.{Option, none, some}
use Rattle.model.specs.Sizes.{Bytes}
use Rattle.model.specs.Entry.{Entry, Prefix}
use Rattle.model.specs.History.{Certificate, LeaderLog, History}
use Rattle.storage.specs.Tables.{PrefixRow, NodeRow, CertificateRow, LeaderLogRow, Tables, tables_in, tables_of}

-- the prefix of a number: 0 is the empty one, k the k-th stored
abbrev pub prefix_at : List Prefix → ℕ → Prefix
prefix_at ps p = get_or ([] ∷ ps) p []

abbrev pub entry_of : PrefixRow → Entry
entry_of r = record { term = r.term; configuration = eqb r.mark 1; content = r.content }

-- a mark as it is stored
abbrev pub mark_of : Entry → ℕ
mark_of e = cond e.configuration 1 0

-- the prefix that a row adds to those before it: its parent's, with its entry
abbrev pub extended : List Prefix → PrefixRow → Prefix
extended ps r = prefix_at ps r.parent ++ (entry_of r ∷ [])

-- the stored prefixes, with those of more rows
unfoldable pub resolve_from : List Prefix → List PrefixRow → List Prefix
resolve_from ps [] = ps
resolve_from ps (r ∷ rs) = resolve_from (ps ++ (extended ps r ∷ [])) rs

abbrev pub resolve : List PrefixRow → List Prefix
resolve rs = resolve_from [] rs

abbrev pub log_in : List Prefix → CertificateRow → Option Prefix
log_in ps c = cond (eqb c.present 0) none (some (prefix_at ps c.log))

abbrev pub certificate_in : List Prefix → CertificateRow → Certificate
certificate_in ps c =
    record { leader = c.leader; term = c.term; number = c.number; log = log_in ps c; mark = c.mark }

abbrev pub front_in : List Prefix → NodeRow → Prefix
front_in ps n = prefix_at ps n.front

abbrev pub leader_log_in : List Prefix → LeaderLogRow → LeaderLog
leader_log_in ps l = record { node = l.node; term = l.term; front = prefix_at ps l.front; last = l.last }

-- the history that tables stand for, its prefixes given
abbrev pub history_with : List Prefix → Tables → History
history_with ps t =
    record {
      prefixes = ps;
      fronts = map (front_in ps) t.nodes;
      lasts = map (λ n. n.last) t.nodes;
      unseen = map (λ n. n.unseen) t.nodes;
      committed = prefix_at ps t.committed;
      owner = t.owner;
      terms = t.terms;
      certificates = map (certificate_in ps) t.certificates;
      findings = t.findings;
      leader_logs = map (leader_log_in ps) t.leader_logs;
    }

abbrev pub history_in : Tables → History
history_in t = history_with (resolve t.rows) t

-- the history that bytes stand for
unfoldable pub decode : Bytes → History
unfolding resolve_from tables_in
decode h = history_in (tables_of h)
