pub mod TermSearchLaws
