mod Expectations
mod Imported
mod Imports
mod Inserts
mod LineLemmas
mod ListLemmas
