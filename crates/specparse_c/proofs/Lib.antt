mod Failures
mod Laying
mod Calls
mod Prepared
mod RunLemmas
