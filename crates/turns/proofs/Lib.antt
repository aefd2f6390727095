mod SharedLemmas
mod SettledLemmas
mod ProgressLemmas
